-- What a gathering promises: it goes record by record, and gathering a file in parts is gathering it in one.
-- Each statement has a name here, and its proof under the same name in the file Promises of proofs/. s is how a gathering stands.
use Rattle.std.specs.Prelude.{ℕ, ◌+◌, ◌≤◌, ◌≡◌, List, ◌++◌, length, drop}
use Rattle.quantity.specs.declared.Refusal.TheVariants.{CutShort}
use Rattle.tablefile.specs.BigEndian.{AreBytes}
use Rattle.replay_gathering.specs.declared.End.{End}
use Rattle.replay_gathering.specs.declared.End.TheVariants.{NothingLeft, Unreadable}
use Rattle.replay_gathering.specs.Gathering.{State, Outcome, task_at, onward, gather_from, begun}

-- a gathering takes one record, and goes on with what is left
abbrev pub OneRecordAtATime : Type 0
OneRecordAtATime = (bytes : List ℕ) (s : State) → gather_from bytes s ≡ onward s (task_at bytes s) (gather_from bytes)

-- a state so many bytes and so many records on
unfoldable pub moved : ℕ → ℕ → State → State
moved bytes records s = record {
  at = bytes + s.at;
  records = records + s.records;
  count = s.count;
  bridge = s.bridge;
  arrivals = s.arrivals;
  ids = s.ids;
  octets = s.octets;
}

-- what a gathering gives that begins after so many bytes and so many records
unfoldable pub after : ℕ → ℕ → Outcome → Outcome
after bytes records o = record {
  gathered = record { why = o.gathered.why; at = bytes + o.gathered.at; records = records + o.gathered.records; count = o.gathered.count; bridge = o.gathered.bridge };
  arrivals = o.arrivals;
  ids = o.ids;
  octets = o.octets;
}

-- a gathering may begin anywhere, as after a set-up that was refused: what is left, from its front, gives what going on in place gives
abbrev pub FromAnyPlace : Type 0
FromAnyPlace =
    (bytes : List ℕ) (n records : ℕ) → n ≤ length bytes → (s : State) → s.at ≤ length (drop n bytes)
    → gather_from bytes (moved n records s) ≡ after n records (gather_from (drop n bytes) s)

-- the ends after which more of the file may change what was found: nothing is left, or a record is cut short
pub data WantsMore : End → Type 0 where
  nothing_left : WantsMore NothingLeft
  cut_short : WantsMore (Unreadable CutShort)

-- how the next part begins: with the bridge, the lists and the count that were left
unfoldable pub next : Outcome → State
next o = begun o.gathered.bridge o.arrivals o.ids o.octets o.gathered.count

-- a part that wants more, and then what is left of it with what follows, give what the whole gives
abbrev pub PartsAreOne : Type 0
PartsAreOne =
    (part rest : List ℕ) → AreBytes part → (s : State) → s.at ≤ length part → WantsMore (gather_from part s).gathered.why
    → gather_from (part ++ rest) s
    ≡ after (gather_from part s).gathered.at (gather_from part s).gathered.records (gather_from (drop (gather_from part s).gathered.at part ++ rest) (next (gather_from part s)))

-- a part that ends otherwise gives what the whole gives, whatever follows
abbrev pub EndsForGood : Type 0
EndsForGood =
    (part rest : List ℕ) → AreBytes part → (s : State) → s.at ≤ length part → (WantsMore (gather_from part s).gathered.why → ⊥)
    → gather_from (part ++ rest) s ≡ gather_from part s
