-- The limits of an entry can be made.
use Rattle.std.proofs.Common.{◌≡◌, ℕ, ◌+◌, ◌<◌, ◌≤◌, true, List, [], ◌∷◌, ◌++◌, length, get_or, take, drop, Ok, sym, ap, ◌∙◌, arith}
use Rattle.std.specs.List.{AllByRecursion}
use Rattle.std.proofs.ByRecursion.{All-get_or}
use Rattle.std.proofs.lemmas.List.{take_more, take-append-drop, length-take-le}
use Rattle.std.proofs.lemmas.Bool.Decides.{nat_tests}
use Rattle.limits.specs.Strokes.{longest, never_falls}
use Rattle.limits.specs.Limits.{stair}
use Rattle.limits.specs.Making.{stair_made, distance_taken}
use Rattle.sheet.specs.Sheet.{StairNumbers, most_distances}
use Rattle.sheet.proofs.PileLaws.{pile_laws}

pub stair_makes : (n p : ℕ) → StairNumbers n p → stair_made n p ≡ Ok (stair n p)
stair_makes n p h = grind (arith, nat_tests)

pub distances_make : (ds : List ℕ) → length ds ≤ most_distances → never_falls ds ≡ true → AllByRecursion (λ d. d ≤ longest) ds → (i : ℕ) → i < length ds → distance_taken (take i ds) (get_or ds i 0) ≡ Ok tt
distances_make ds few rising small i l =
    let d = get_or ds i 0 in
    let low : d ≤ longest = All-get_or (λ d. d ≤ longest) ds i 0 l small in
    let room = length-take-le i ds (omega arith) in
    let front : never_falls (take (i + 1) ds) ≡ true = (pile_laws [] tt).0.beginning (take (i + 1) ds) (drop (i + 1) ds) (ap never_falls (take-append-drop (i + 1) ds) ∙ rising) in
    let on : never_falls (take i ds ++ (d ∷ [])) ≡ true = ap never_falls (sym (take_more ds i 0 l)) ∙ front in
    grind (arith, nat_tests)
