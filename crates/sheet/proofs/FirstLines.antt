-- The first lines of a text, against its parts.
use Rattle.std.proofs.Common.{◌≡◌, ℕ, zero, suc, ◌<◌, ◌≤◌, cond, eqb, List, [], ◌∷◌, ◌++◌, length, take, sym, refl, ap, ◌∙◌, append-nil, arith}
use Rattle.std.specs.List.{join_with_byte}
use Rattle.std.proofs.lemmas.Bool.Decides.{nat_tests}
use Rattle.sheet.specs.Parts.{newline, lengthened, parted, ends, first_lines}
use Rattle.sheet.proofs.Parts.{length-lengthened, some_parts, rejoined-parted}

pub length-parted : (t : List ℕ) → length (parted newline t) ≡ suc (ends t)
length-parted [] = refl
length-parted (c ∷ cs) =
    let rest = length-parted cs in
    let longer = length-lengthened c (parted newline cs) in
    grind (arith, nat_tests)

pub length-first : (j : ℕ) (t : List ℕ) → length (first_lines j t) ≤ length t
length-first zero t = omega arith
length-first (suc j) [] = omega arith
length-first (suc j) (c ∷ cs) = let rest = length-first (cond (eqb c newline) j (suc j)) cs in omega arith

lengthened-take : (c j : ℕ) (ps qs : List (List ℕ)) → 0 < length ps → lengthened c (take (suc j) ps ++ qs) ≡ take (suc j) (lengthened c ps) ++ qs
lengthened-take c j [] qs h = absurd (omega arith)
lengthened-take c j (p ∷ ps) qs h = refl

-- the parts of the first j lines with something else behind them
pub parted_first : (j : ℕ) (t rest : List ℕ) → j ≤ ends t → parted newline (first_lines j t ++ rest) ≡ take j (parted newline t) ++ parted newline rest
parted_first zero t rest h = refl
parted_first (suc j) [] rest h = absurd (omega arith)
parted_first (suc j) (c ∷ cs) rest h =
    let here = parted_first j cs rest in
    let on = parted_first (suc j) cs rest in
    let longer = lengthened-take c j (parted newline cs) (parted newline rest) (some_parts newline cs) in
    grind (arith, nat_tests)

-- so the first j lines are made of their parts
pub first_made : (j : ℕ) (t : List ℕ) → j ≤ ends t → first_lines j t ≡ join_with_byte newline (take j (parted newline t) ++ ([] ∷ []))
first_made j t h = sym (append-nil (first_lines j t)) ∙ sym (rejoined-parted newline (first_lines j t ++ [])) ∙ ap (join_with_byte newline) (parted_first j t [] h)
