-- `admission::is_sound` meets its contract: each return has the tests that led there. Assumes nothing.
use mathlib.Core.Path.{◌≡◌, sym, ap, ◌∙◌}
use mathlib.Core.Bool.{true}
use Rattle.quantity.specs.Ranges.{in_range}
use Rattle.quantity.specs.declared.Item.TheVariants.{GroupId, StreamRate}
use Rattle.quantity.proofs.Booleans.{refuted, confirmed}
use Rattle.records.specs.Sound.{sound, sound_group, sound_regulator}
use Rattle.records.specs.declared.Regulator.{Regulator}
use Rattle.admission.proofs.is_sound.Goals as goal

pub returns-then-not-sound_group : goal.returns-then-not-sound_group
unfolding sound
returns-then-not-sound_group c = simp (refuted c.sound_group.ensures c.if-not-sound_group.true)

pub returns-then-not-in_range : goal.returns-then-not-in_range
unfolding sound
returns-then-not-in_range c =
    let group_sound : sound_group c.args.group ≡ true = confirmed c.sound_group.ensures c.if-not-sound_group.false in
    simp (group_sound, refuted c.in_range.ensures c.if-not-in_range.true)

pub returns-then-not-in_range-2 : goal.returns-then-not-in_range-2
unfolding sound
returns-then-not-in_range-2 c =
    let group_sound : sound_group c.args.group ≡ true = confirmed c.sound_group.ensures c.if-not-sound_group.false in
    let id_in : in_range GroupId c.args.stream.group ≡ true = confirmed c.in_range.ensures c.if-not-in_range.false in
    simp (group_sound, id_in, refuted c.in_range-2.ensures c.if-not-in_range-2.true)

pub returns-in-Unset : goal.returns-in-Unset
unfolding sound_regulator sound
returns-in-Unset c =
    let group_sound : sound_group c.args.group ≡ true = confirmed c.sound_group.ensures c.if-not-sound_group.false in
    let id_in : in_range GroupId c.args.stream.group ≡ true = confirmed c.in_range.ensures c.if-not-in_range.false in
    let rate_in : in_range StreamRate c.args.stream.rate.0 ≡ true = confirmed c.in_range-2.ensures c.if-not-in_range-2.false in
    let last_test : let a = c.args in sound_regulator a.stream.rate.0 a.group.time.0 a.stream.regulator ≡ sound a.stream a.group = let e = c in simp (group_sound, id_in, rate_in) in
    let a = c.args in
    sym (ap (λ (k : Regulator). sound_regulator a.stream.rate.0 a.group.time.0 k) c.in-Unset.is) ∙ last_test

pub returns-in-Bucket : goal.returns-in-Bucket
unfolding sound
returns-in-Bucket c =
    let group_sound : sound_group c.args.group ≡ true = confirmed c.sound_group.ensures c.if-not-sound_group.false in
    let id_in : in_range GroupId c.args.stream.group ≡ true = confirmed c.in_range.ensures c.if-not-in_range.false in
    let rate_in : in_range StreamRate c.args.stream.rate.0 ≡ true = confirmed c.in_range-2.ensures c.if-not-in_range-2.false in
    let last_test : let a = c.args in sound_regulator a.stream.rate.0 a.group.time.0 a.stream.regulator ≡ sound a.stream a.group = let e = c in simp (group_sound, id_in, rate_in) in
    let k = c in
    let e = k in
    let a = e.args in
    c.sound_bucket.ensures
    ∙ sym (ap (λ (k : Regulator). sound_regulator a.stream.rate.0 a.group.time.0 k) k.in-Bucket.is)
    ∙ last_test
