-- `firmware::aldurretx_receive` meets its contract: what the by-value call told is stored where it stood, or nothing is.
-- Assumes nothing.
use Rattle.std.proofs.Common.{◌≡◌, ◌<◌, true, false, length, List, sym, ap, ◌∙◌, arith, rules, ℤ, SFits, w64, to_z-of_z}
use Rattle.lent.specs.Steps.{ready}
use Rattle.lent.proofs.InPlaceLaws.{has_place, has_low_place}
use Rattle.firmware.proofs.LentRecords.{no_record, restamped_record, written_twice, frame_stored, frame_unready}
use Rattle.firmware.specs.declared.StreamRecord.{StreamRecord}
use lib.ListN.{get_or, set}
use Rattle.firmware.specs.Firmware.{FrameReceived}
use Rattle.firmware.proofs.aldurretx_receive.Goals as goal

pub offset_bounds-streams-at : goal.offset_bounds-streams-at
offset_bounds-streams-at c =
    let a = c.args in
    record { fits = omega (arith, has_low_place (length a.streams.now) a.stream (sym c.is_ready.ensures ∙ c.if-is_ready.true)) }

pub slice_copy_out-tell_frame : goal.slice_copy_out-tell_frame
slice_copy_out-tell_frame c =
    let a = c.args in
    has_place (length a.streams.now) a.stream (sym c.is_ready.ensures ∙ c.if-is_ready.true)

pub offset_bounds-streams-at-then-is_ready : goal.offset_bounds-streams-at-then-is_ready
offset_bounds-streams-at-then-is_ready c =
    let a = c.args in
    record { fits = omega (arith, has_low_place (length a.streams.now) a.stream (sym c.is_ready.ensures ∙ c.if-is_ready.true)) }

pub bounds-streams-at : goal.bounds-streams-at
bounds-streams-at c =
    let a = c.args in
    has_place (length a.streams.now) a.stream (sym c.is_ready.ensures ∙ c.if-is_ready.true)

pub returns-then-is_ready : goal.returns-then-is_ready
returns-then-is_ready c =
    let a = c.args in
    let has : ready (length a.streams.now) a.stream ≡ true = sym c.is_ready.ensures ∙ c.if-is_ready.true in
    let within : a.stream < length a.streams.now = has_place (length a.streams.now) a.stream has in
    let s : StreamRecord = get_or a.streams.now a.stream no_record in
    let r = c.tell_frame-told.result in
    let emptied : ℤ → StreamRecord = λ z. record { used = s.used; group = s.group; rate = s.rate; burst = s.burst; empty = z; part = s.part } in
    let parted : StreamRecord → StreamRecord = λ x. record { used = x.used; group = x.group; rate = x.rate; burst = x.burst; empty = x.empty; part = r.stream.part } in
    let told : List StreamRecord → FrameReceived = λ ss. record { number = r.number; time = r.time; group = restamped_record a.group.now r.group; streams = ss } in
    let first : ℤ → List StreamRecord = λ z. set a.streams.now a.stream (emptied z) in
    let fit : SFits w64 r.stream.empty = search rules in
    -- the machine's reading of the field is the field
    ap (λ (z : ℤ). told (set (first z) a.stream (parted (get_or (first z) a.stream no_record)))) (to_z-of_z fit)
    ∙ ap told (written_twice a.streams.now a.stream no_record within (emptied r.stream.empty) parted)
    ∙ frame_stored a.id a.group.now a.streams.now a.stream a.octets a.arrival a.time.now no_record has within c.tell_frame-told.result c.tell_frame-told.ensures

pub returns-else-is_ready : goal.returns-else-is_ready
returns-else-is_ready c =
    let a = c.args in
    let has : ready (length a.streams.now) a.stream ≡ false = sym c.is_ready.ensures ∙ c.if-is_ready.false in
    ap (λ n. let r : FrameReceived = record { number = n; time = a.time.now; group = a.group.now; streams = a.streams.now } in r) c.unready_number.ensures
    ∙ frame_unready a.id a.group.now a.streams.now a.stream a.octets a.arrival a.time.now has
