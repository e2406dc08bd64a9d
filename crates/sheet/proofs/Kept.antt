-- Every promise, kept.
use Rattle.std.proofs.Common.{map, ap, ◌∙◌}
use Rattle.records.proofs.Audits.{audit_first}
use Rattle.frames.specs.Bells.{fresh}
use Rattle.frames.proofs.Governing.{governed}
use Rattle.sheet.specs.Numbers.{read_number}
use Rattle.sheet.specs.Check.{check}
use Rattle.sheet.specs.Listing.{hung, call_of}
use Rattle.sheet.specs.Promises.{NumbersReadBack, WrongByteIsFirst, AcceptsWhatIsWritten, LimitsCanBeMade, TooLongComesFirst, FaultyLineIsFirst, FaultyFieldIsFirst, BellsAreRuled, CallsAreGoverned, AuditsTellTheFirst, StrokesAreThoseHandedOut, StrokesPassTheAudit}
use Rattle.sheet.specs.Examples.{WorkedSheets}
use Rattle.sheet.proofs.Numbers.{written_reads, reads_written}
use Rattle.sheet.proofs.WrongBytes.{goes_wrong}
use Rattle.sheet.proofs.Sheets.{accepts, accepted}
use Rattle.sheet.proofs.Faults.{too_long, first_fault}
use Rattle.sheet.proofs.FieldFaults.{first_field}
use Rattle.sheet.proofs.Making.{stair_makes, distances_make}
use Rattle.sheet.proofs.Hung.{hung_fresh, hung_ruled}
use Rattle.sheet.proofs.Handed.{rung_handed, handed_passes}
use Rattle.sheet.proofs.WorkedSheets as examples

pub numbers_read_back : NumbersReadBack
numbers_read_back text n = (reads_written text n, λ h. ap read_number h.0 ∙ written_reads n h.1)

pub wrong_byte_is_first : WrongByteIsFirst
wrong_byte_is_first = goes_wrong

pub accepts_what_is_written : AcceptsWhatIsWritten
accepts_what_is_written bytes s = (accepted bytes s, λ h. ap check h.0 ∙ accepts s h.1)

pub limits_can_be_made : LimitsCanBeMade
limits_can_be_made e h = (stair_makes e.burst₁ e.period₁ h.stair₁, stair_makes e.burst₂ e.period₂ h.stair₂, distances_make e.distances h.few h.rising h.small)

pub too_long_comes_first : TooLongComesFirst
too_long_comes_first = too_long

pub faulty_line_is_first : FaultyLineIsFirst
faulty_line_is_first = first_fault

pub faulty_field_is_first : FaultyFieldIsFirst
faulty_field_is_first = first_field

pub bells_are_ruled : BellsAreRuled
bells_are_ruled bytes s ok = let h = (accepted bytes s ok).1.hangable in (hung_fresh s.entries h, hung_ruled s.entries h)

pub calls_are_governed : CallsAreGoverned
calls_are_governed bytes s ok = let bells = bells_are_ruled bytes s ok in governed (hung s.entries) bells.0 bells.1 (map call_of s.asks)

pub audits_tell_the_first : AuditsTellTheFirst
audits_tell_the_first m order ts = audit_first m ts order.empty

pub strokes_are_those_handed_out : StrokesAreThoseHandedOut
strokes_are_those_handed_out = rung_handed

pub strokes_pass_the_audit : StrokesPassTheAudit
strokes_pass_the_audit bytes s ok n m e = handed_passes (hung s.entries) s.asks n (fresh m) e ((bells_are_ruled bytes s ok).1 n (fresh m) e).0 (calls_are_governed bytes s ok)

pub worked_sheets : WorkedSheets
worked_sheets = examples.worked_sheets
