-- What a replay writes, proved: each theorem has the name of its statement in specs/Replaying. Assumes nothing.
use Rattle.std.proofs.Common.{◌≡◌, ℕ, true, List, [], take, sym, ap, ◌∙◌}
use Rattle.quantity.proofs.Booleans.{cond_true}
use Rattle.places.specs.Queue.{nothing}
use Rattle.places.specs.declared.Waiting.{Waiting}
use Rattle.line.specs.Run.{Outcome, begun, run_gives}
use Rattle.replay_turn.specs.declared.Standing.{Standing}
use Rattle.intake.specs.Promises.{Given}
use Rattle.intake.specs.Sessions.{bytes_of}
use Rattle.replay_turn.specs.Gathered.{Final, gathered_from}
use Rattle.replay_turn.specs.Turns.{yard_of, final_of, reached_by}
use Rattle.replay_turn.specs.Promises.{reading_session}
use Rattle.replay_turn.proofs.Promises.{gathered_from_all_readings}
use Rattle.replay_turn.proofs.Protocol.{gathered_is_the_file}
use Rattle.replay_account.specs.Account.{account_of, account_text}
use Rattle.replay_account.proofs.Promises.{account_in_parts}
use Rattle.replay.specs.Replaying.{places, budget, run_of, told_of, replayed_by, replay_text, ReplayOfAllReadings, AccountIsTheReplay}

-- what was gathered as a whole is run, and its account told
whole_is_told : (r f : ℕ) (answers picked moments : List ℕ) (g : Final) → g.whole ≡ true → told_of (run_of r f answers picked moments g.yard) ≡ replayed_by r f answers picked moments g
unfolding replayed_by
whole_is_told r f answers picked moments g w = sym (cond_true g.whole (told_of (run_of r f answers picked moments g.yard)) [] w)

pub replay_of_all_readings : ReplayOfAllReadings
unfolding replay_text told_of
replay_of_all_readings r f size turns parts arrivals ids octets answers picked moments input lists bytes well few enough room more =
    let S = reading_session turns arrivals ids octets input in
    let g = final_of S.state in
    let o = run_of r f answers picked moments g.yard in
    let all = gathered_from_all_readings places turns arrivals ids octets input lists.for_arrivals lists.for_ids lists.for_octets bytes well few enough in
    let said : S.text ≡ (gathered_from places (bytes_of input)).text = sym (ap (λ (x : Given Final). x.text) all.1) in
    let file : (gathered_from places (bytes_of input)).final ≡ g = ap (λ (x : Given Final). x.final) all.1 in
    let told = account_in_parts (account_of o.ran) o.answers o.picked o.moments size parts room more in
    (all.0, said, λ w. (told.0, told.1 ∙ whole_is_told r f answers picked moments g w ∙ ap (replayed_by r f answers picked moments) (sym file)))

pub account_is_the_replay : AccountIsTheReplay
unfolding replay_text told_of final_of reached_by
account_is_the_replay ran answers picked moments x bytes =
    let g = final_of (reached_by x.standing x.arrivals x.ids x.octets) in
    ap (λ (o : Outcome). account_text (account_of o.ran) o.answers o.picked o.moments) x.is
    ∙ whole_is_told x.rate x.free x.answers₀ x.picked₀ x.moments₀ g x.whole
    ∙ ap (replayed_by x.rate x.free x.answers₀ x.picked₀ x.moments₀) (sym (gathered_is_the_file places x.standing x.arrivals x.ids x.octets x.gathered bytes))

-- the run that the program makes is the run of what was gathered
pub ran_is : (x : Standing) (a d o : List ℕ) (r f : ℕ) (w : Waiting) (answers picked moments : List ℕ) (out : Outcome) → w ≡ nothing
    → out ≡ run_gives (record { arrivals = take x.count a; ids = take x.count d; octets = take x.count o; rate = r }) budget (begun x.bridge w 0 f answers picked moments)
    → out ≡ run_of r f answers picked moments (yard_of (reached_by x a d o))
unfolding run_of yard_of reached_by
ran_is x a d o r f w answers picked moments out e q =
    q
    ∙ ap (λ (v : Waiting). run_gives (record { arrivals = take x.count a; ids = take x.count d; octets = take x.count o; rate = r }) budget (begun x.bridge v 0 f answers picked moments)) e
