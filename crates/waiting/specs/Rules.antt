-- Document 01, 'Waiting and picking': what entering and picking do to the classes as lists of their entries in order of entering.
-- w is the waiting places before a call and v after it; c is a class, e an entry, m a moment.
use Rattle.std.specs.Prelude.{ℕ, ◌≤◌, ◌<◌, ◌≡◌, List, [], ◌∷◌, ◌++◌}
use Rattle.places.specs.declared.Waiting.{Waiting}
use Rattle.places.specs.declared.Entry.{Entry}
use Rattle.places.specs.Queue.{queue}

-- P holds of each entry of a list
pub data Each (P : Entry → Type 0) : List Entry → Type 0 where
  none : Each P []
  one : {e : Entry} {q : List Entry} → P e → Each P q → Each P (e ∷ q)

-- the time of an entry is after the moment m, is not before it
abbrev pub After : ℕ → Entry → Type 0
After m e = m < e.time.0

abbrev pub NotBefore : ℕ → Entry → Type 0
NotBefore m e = m ≤ e.time.0

-- the new entry is the last of its class; the other classes stay
pub record Enters (w v : Waiting) (c : ℕ) (e : Entry) : Type 0 where
  pub last : queue v c ≡ queue w c ++ (e ∷ [])
  pub others : (d : ℕ) → (d ≡ c → ⊥) → queue v d ≡ queue w d

-- the entry e of class c is picked at m. It leaves, and the others keep their order; its time is not after m; no higher class has
-- an entry of which that can be said; of its own class, those ahead of it, which entered before it, have a later time, and those behind it no smaller one
pub record Picks (w v : Waiting) (m c : ℕ) (e : Entry) : Type 0 where
  pub ahead : List Entry
  pub behind : List Entry
  pub was : queue w c ≡ ahead ++ (e ∷ behind)
  pub is : queue v c ≡ ahead ++ behind
  pub others : (d : ℕ) → (d ≡ c → ⊥) → queue v d ≡ queue w d
  pub eligible : e.time.0 ≤ m
  pub highest : (d : ℕ) → c < d → Each (After m) (queue w d)
  pub first : Each (After e.time.0) ahead
  pub smallest : Each (NotBefore e.time.0) behind

-- no class has an entry whose time is not after m
abbrev pub NothingEligible : Waiting → ℕ → Type 0
NothingEligible w m = (c : ℕ) → Each (After m) (queue w c)

-- t is the smallest time at which an entry waits: some entry of a class has it, and no entry has a smaller one
pub record SmallestTime (w : Waiting) (t : ℕ) : Type 0 where
  pub class : ℕ
  pub ahead : List Entry
  pub entry : Entry
  pub behind : List Entry
  pub waits : queue w class ≡ ahead ++ (entry ∷ behind)
  pub has : entry.time.0 ≡ t
  pub smallest : (d : ℕ) → Each (NotBefore t) (queue w d)
