-- Parting and rejoining.
use Rattle.std.proofs.Common.{◌≡◌, ℕ, ◌<◌, List, [], ◌∷◌, ◌++◌, map, length, sym, refl, ap, ◌∙◌, append_assoc, arith}
use Rattle.std.specs.List.{join_with_byte, flat_map, AllByRecursion}
use Rattle.std.proofs.ByRecursion.{All-append}
use Rattle.std.proofs.lemmas.Bool.{ne_eqb, eq-eqb}
use Rattle.std.proofs.lemmas.Bool.Decides.{nat_tests}
use Rattle.sheet.specs.Parts.{tab, newline, lengthened, parted}
use Rattle.sheet.specs.Sheet.{line}

-- no byte of the text is s
abbrev pub Free : ℕ → List ℕ → Type 0
Free s p = AllByRecursion (λ c. (c ≡ s) → ⊥) p

pub rejoined_more : (s : ℕ) (p : List ℕ) (ps : List (List ℕ)) → 0 < length ps → join_with_byte s (p ∷ ps) ≡ p ++ (s ∷ join_with_byte s ps)
rejoined_more s p [] h = absurd (omega arith)
rejoined_more s p (q ∷ ps) h = refl

rejoined-lengthened : (s c : ℕ) (ps : List (List ℕ)) → 0 < length ps → join_with_byte s (lengthened c ps) ≡ c ∷ join_with_byte s ps
rejoined-lengthened s c [] h = absurd (omega arith)
rejoined-lengthened s c (p ∷ []) h = refl
rejoined-lengthened s c (p ∷ q ∷ ps) h = refl

pub length-lengthened : (c : ℕ) (ps : List (List ℕ)) → length (lengthened c ps) ≡ length ps
length-lengthened c [] = refl
length-lengthened c (p ∷ ps) = refl

pub some_parts : (s : ℕ) (t : List ℕ) → 0 < length (parted s t)
some_parts s [] = omega arith
some_parts s (c ∷ cs) =
    let rest = some_parts s cs in
    let longer = length-lengthened c (parted s cs) in
    grind (arith, nat_tests)

-- the parts of a text make the text
pub rejoined-parted : (s : ℕ) (t : List ℕ) → join_with_byte s (parted s t) ≡ t
rejoined-parted s [] = refl
rejoined-parted s (c ∷ cs) =
    let rest = rejoined-parted s cs in
    let n = some_parts s cs in
    let more = rejoined_more s [] (parted s cs) n in
    let longer = rejoined-lengthened s c (parted s cs) n in
    grind (arith, nat_tests)

-- and the parts that made a text are its parts
pub parted_step : (s : ℕ) (p t : List ℕ) → Free s p → parted s (p ++ (s ∷ t)) ≡ p ∷ parted s t
parted_step s [] t f = let same = eq-eqb s s refl in cc
parted_step s (c ∷ p) t f =
    let apart = ne_eqb c s f.0 in
    let rest = parted_step s p t f.1 in
    cc

pub parted_free : (s : ℕ) (p : List ℕ) → Free s p → parted s p ≡ p ∷ []
parted_free s [] f = refl
parted_free s (c ∷ p) f =
    let apart = ne_eqb c s f.0 in
    let rest = parted_free s p f.1 in
    cc

pub parted-rejoined : (s : ℕ) (ps : List (List ℕ)) → 0 < length ps → AllByRecursion (Free s) ps → parted s (join_with_byte s ps) ≡ ps
parted-rejoined s [] h f = absurd (omega arith)
parted-rejoined s (p ∷ []) h f = parted_free s p f.0
parted-rejoined s (p ∷ q ∷ ps) h f = parted_step s p (join_with_byte s (q ∷ ps)) f.0 ∙ ap (λ (qs : List (List ℕ)). p ∷ qs) (parted-rejoined s (q ∷ ps) (omega arith) f.1)

-- a text of lines, and its lines
abbrev pub ended : List (List (List ℕ)) → List (List ℕ)
ended rows = map (join_with_byte tab) rows ++ ([] ∷ [])

pub some_ended : (rows : List (List (List ℕ))) → 0 < length (ended rows)
some_ended [] = omega arith
some_ended (r ∷ rows) = omega arith

pub lines_rejoined : (rows : List (List (List ℕ))) → join_with_byte newline (ended rows) ≡ flat_map line rows
lines_rejoined [] = refl
lines_rejoined (r ∷ rows) =
    rejoined_more newline (join_with_byte tab r) (ended rows) (some_ended rows)
    ∙ ap (λ (t : List ℕ). join_with_byte tab r ++ (newline ∷ t)) (lines_rejoined rows)
    ∙ sym (append_assoc (join_with_byte tab r) (newline ∷ []) (flat_map line rows))

pub lines_parted : (rows : List (List (List ℕ))) → AllByRecursion (λ r. Free newline (join_with_byte tab r)) rows → parted newline (flat_map line rows) ≡ ended rows
lines_parted [] f = refl
lines_parted (r ∷ rows) f =
    ap (parted newline) (append_assoc (join_with_byte tab r) (newline ∷ []) (flat_map line rows))
    ∙ parted_step newline (join_with_byte tab r) (flat_map line rows) f.0
    ∙ ap (λ (ps : List (List ℕ)). join_with_byte tab r ∷ ps) (lines_parted rows f.1)

pub free_rejoined : (s b : ℕ) (ps : List (List ℕ)) → ((b ≡ s) → ⊥) → AllByRecursion (Free s) ps → Free s (join_with_byte b ps)
free_rejoined s b [] h f = tt
free_rejoined s b (p ∷ []) h f = f.0
free_rejoined s b (p ∷ q ∷ ps) h f = All-append (λ c. (c ≡ s) → ⊥) p (b ∷ join_with_byte b (q ∷ ps)) f.0 (h, free_rejoined s b (q ∷ ps) h f.1)
