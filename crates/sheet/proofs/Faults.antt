-- The fault that is found is on the first line that is wrong.
use Rattle.std.proofs.Common.{◌≡◌, ℕ, ◌-◌, ◌<◌, ◌≤◌, List, [], ◌∷◌, ◌++◌, length, take, Err, sym, ap, ◌∙◌, arith}
use Rattle.std.specs.List.{join_with_byte, flat_map}
use Rattle.std.proofs.lemmas.Bool.{le-leb, lt-leb}
use Rattle.sheet.specs.Parts.{newline, parted, first_lines}
use Rattle.sheet.specs.Sheet.{line, most_bytes}
use Rattle.sheet.specs.Faults.{Fault, at}
use Rattle.sheet.specs.Check.{check_from, check}
use Rattle.sheet.specs.Promises.{FirstFault}
use Rattle.sheet.proofs.Parts.{some_parts, lines_rejoined}
use Rattle.sheet.proofs.Steps.{must_is}
use Rattle.sheet.proofs.Lines.{lines_of}
use Rattle.sheet.proofs.FirstLines.{length-parted, length-first, parted_first, first_made}
use Rattle.sheet.proofs.LineFaults.{faulted}
use Rattle.sheet.proofs.Completing.{complete}

pub too_long : (bytes : List ℕ) → most_bytes < length bytes → check bytes ≡ Err (at 1 0 6)
too_long bytes h = let long = lt-leb (length bytes) 16384 h in cc

check_parts : (bytes : List ℕ) → length bytes ≤ 16384 → check bytes ≡ check_from 1 0 (parted newline bytes)
check_parts bytes h = must_is _ _ (le-leb (length bytes) 16384 h)

pub first_fault : (bytes : List ℕ) (f : Fault) → length bytes ≤ most_bytes → check bytes ≡ Err f → FirstFault bytes f
first_fault bytes f short h =
    let some = some_parts newline bytes in
    let count = length-parted bytes in
    let found = faulted 0 0 (parted newline bytes) f some (sym (check_parts bytes short) ∙ h) in
    let from = found.from in
    let upto = found.upto in
    let last = found.last in
    let s = found.good.0 in
    let good = found.good.1 in
    let lines = lines_of 0 s.entries s.asks in
    let front : first_lines (f.line - 1) bytes ≡ flat_map line lines = first_made (f.line - 1) bytes (omega arith) ∙ ap (λ (ps : List (List ℕ)). join_with_byte newline (ps ++ ([] ∷ []))) good.text ∙ lines_rejoined lines in
    let same : f.line - 0 ≡ f.line = omega arith in
    let fits = length-first (f.line - 1) bytes in
    record {
      before = complete (take (f.line - 1) (parted newline bytes)) s.entries s.asks (first_lines (f.line - 1) bytes) good front (omega arith);
      after = λ rest l m. check_parts (first_lines f.line bytes ++ rest) m ∙ ap (check_from 1 0) (parted_first f.line bytes rest l) ∙ rw same at (found.stays (omega arith) (parted newline rest) (some_parts newline rest));
      last = λ l. (omega arith, last (omega arith));
    }
