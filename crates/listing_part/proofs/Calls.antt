-- Laws of the calls that records stand for: the answer that the code shows is that of the call on the tables. Assumes nothing.
use mathlib.Core.Path.{◌≡◌, refl, sym, ap, ◌∙◌}
use mathlib.Core.List.{List, []}
use Prim.Native.Nat.{ℕ, ◌<◌}
use native.Mathlib.Omega.{arith}
use Rattle.records.specs.Numbers.{answer_number, answer_values}
use Rattle.records.specs.declared.Answer.{Answer}
use Rattle.records.specs.declared.Answer.TheVariants.{Released, Discarded, Refused}
use Rattle.calls.specs.Numbers.{set_up_number}
use Rattle.bridge.specs.Calls.{BridgeSetUp, Framed, group_called, stream_called, frame_called}
use Rattle.bridge.specs.History.{Call, group, stream, frame, reply, after_call}
use Rattle.bridge.specs.declared.Bridge.{Bridge}
use Rattle.listing_text.specs.Lines.{values_of}
use Rattle.listing_text.specs.declared.Answered.{Answered}
use Rattle.quantity.proofs.Refusals.{refusal_number}
use Rattle.listing_part.specs.Steps.{reply_of, set_up_answer, shown_of, frame_answer}
use Rattle.std.proofs.Common.{Result, Ok, Err}
use Rattle.quantity.specs.declared.Refusal.{Refusal}

-- T is shown of a judged frame, and of no other
shown_values : (a : Answer) → values_of (shown_of a) ≡ answer_values a
unfolding values_of shown_of answer_values
shown_values (Released T) = refl
shown_values (Discarded T) = refl
shown_values (Refused why) = refl

-- a call k that was made on the tables b: the tables after it, and what is shown of its answer
pub record Made (b : Bridge) (k : Call) (new : Bridge) (shown : Answered) : Type 0 where
  pub after : new ≡ after_call b k
  pub replies : reply_of shown ≡ reply b k

module _ (b : Bridge) (k : Call) (shown : Answered) where
  pub group_made : (i c M : ℕ) → k ≡ group i c M → (x : BridgeSetUp) → x ≡ group_called b i c M → shown ≡ set_up_answer x.answer → Made b k x.bridge shown
  unfolding after_call reply reply_of set_up_answer values_of
  group_made i c M e x y f = record {
    after = ap (λ (s : BridgeSetUp). s.bridge) y ∙ sym (ap (after_call b) e);
    replies =
        ap reply_of f
        ∙ ap (λ (s : BridgeSetUp). record { number = set_up_number s.answer; values = [] }) y
        ∙ sym (ap (reply b) e);
  }

  pub stream_made : (i j r u : ℕ) → k ≡ stream i j r u → (x : BridgeSetUp) → x ≡ stream_called b i j r u → shown ≡ set_up_answer x.answer → Made b k x.bridge shown
  unfolding after_call reply reply_of set_up_answer values_of
  stream_made i j r u e x y f = record {
    after = ap (λ (s : BridgeSetUp). s.bridge) y ∙ sym (ap (after_call b) e);
    replies =
        ap reply_of f
        ∙ ap (λ (s : BridgeSetUp). record { number = set_up_number s.answer; values = [] }) y
        ∙ sym (ap (reply b) e);
  }

  pub frame_made : (i n A : ℕ) → k ≡ frame i n A → (x : Framed) → x ≡ frame_called b i n A → shown ≡ frame_answer x.answer → Made b k x.bridge shown
  unfolding after_call reply reply_of frame_answer
  frame_made i n A e x y f = record {
    after = ap (λ (s : Framed). s.bridge) y ∙ sym (ap (after_call b) e);
    replies =
        ap reply_of f
        ∙ ap (λ (vs : List ℕ). record { number = answer_number x.answer; values = vs }) (shown_values x.answer)
        ∙ ap (λ (s : Framed). record { number = answer_number s.answer; values = answer_values s.answer }) y
        ∙ sym (ap (reply b) e);
  }

-- ---- the number returned has at most three digits

set_up_small : (a : Result (Unit {0}) Refusal) → set_up_number a < 256
unfolding set_up_number
set_up_small (Ok tt) = omega arith
set_up_small (Err why) = (refusal_number why).1

frame_small : (a : Answer) → answer_number a < 256
unfolding answer_number
frame_small (Released T) = omega arith
frame_small (Discarded T) = omega arith
frame_small (Refused why) = (refusal_number why).1

pub reply_small : (b : Bridge) (k : Call) → (reply b k).number < 256
unfolding reply
reply_small b (group i c M) = set_up_small (group_called b i c M).answer
reply_small b (stream i k r u) = set_up_small (stream_called b i k r u).answer
reply_small b (frame i n A) = frame_small (frame_called b i n A).answer
