-- One field of a line, and its distances: what the check of them finds, against what is written.
use Rattle.std.proofs.Common.{◌≡◌, ℕ, suc, ◌≤◌, true, ◌&&◌, leb, List, [], ◌∷◌, map, Ok, decimal, refl, ◌∙◌, subst, ap₂, arith}
use Rattle.std.specs.List.{AllByRecursion}
use Rattle.std.proofs.lemmas.Bool.{and_parts, and_from, leb-true, le-leb}
use Rattle.limits.specs.Strokes.{longest, rises_from}
use Rattle.sheet.specs.Numbers.{Writable}
use Rattle.sheet.specs.Faults.{at, Checked, ◌>>=◌}
use Rattle.sheet.specs.Check.{number_at, range_at, distances_at}
use Rattle.sheet.proofs.Numbers.{written_reads, reads_written}
use Rattle.sheet.proofs.Steps.{bind_is, must_is, bind_ok, must_ok}

pub number_back : (k i : ℕ) (text : List ℕ) (n : ℕ) → number_at k i text ≡ Ok n → (text ≡ decimal n) × Writable n
number_back k i text n h = reads_written text n (grind arith)

pub number_there : (k i n : ℕ) → Writable n → number_at k i (decimal n) ≡ Ok n
number_there k i n h = let e = written_reads n h in cc

pub range_back : (k i x low high : ℕ) (text : List ℕ) (n : ℕ) → range_at k i x low high text ≡ Ok n → (text ≡ decimal n) × (low ≤ n) × (n ≤ high)
range_back k i x low high text n h =
    let a = bind_ok (number_at k i text) _ n h in
    let b = must_ok (leb low a.0 && leb a.0 high) (at k i x) _ n a.2 in
    let read = number_back k i text a.0 a.1 in
    let parts = and_parts (leb low a.0) (leb a.0 high) b.0 in
    subst (λ (m : ℕ). (text ≡ decimal m) × (low ≤ m) × (m ≤ high)) (cc b.1) (read.0, leb-true low a.0 parts.0, leb-true a.0 high parts.1)

pub range_there : (k i x low high n : ℕ) → low ≤ n → n ≤ high → Writable n → range_at k i x low high (decimal n) ≡ Ok n
range_there k i x low high n l h w = bind_is _ (number_there k i n w) ∙ must_is (at k i x) _ (and_from (leb low n) (leb n high) (le-leb low n l) (le-leb n high h))

-- the same with what comes after it
pub range_ok : {B : Type 0} (k i x low high : ℕ) (text : List ℕ) (next : ℕ → Checked B) (b : B) → (range_at k i x low high text >>= next) ≡ Ok b → (n : ℕ) × (text ≡ decimal n) × (low ≤ n) × (n ≤ high) × (next n ≡ Ok b)
range_ok k i x low high text next b h =
    let a = bind_ok (range_at k i x low high text) next b h in
    let r = range_back k i x low high text a.0 a.1 in
    (a.0, r.0, r.1, r.2, a.2)

abbrev pub Distances : ℕ → List ℕ → Type 0
Distances low ds = (rises_from low ds ≡ true) × AllByRecursion (λ d. d ≤ longest) ds

pub distances_back : (k i low : ℕ) (texts : List (List ℕ)) (ds : List ℕ) → distances_at k i low texts ≡ Ok ds → (texts ≡ map decimal ds) × Distances low ds
distances_back k i low [] [] h = (refl, (refl, tt))
distances_back k i low [] (d ∷ ds) h = cc
distances_back k i low (text ∷ texts) ds h =
    let a = range_ok k i 3 low longest text _ ds h in
    let b = bind_ok (distances_at k (suc i) a.0 texts) _ ds a.4 in
    let rest = distances_back k (suc i) a.0 texts b.0 b.1 in
    let same : a.0 ∷ b.0 ≡ ds = cc b.2 in
    subst (λ (xs : List ℕ). (text ∷ texts ≡ map decimal xs) × Distances low xs) same (
      ap₂ (λ (x : List ℕ) (xs : List (List ℕ)). x ∷ xs) a.1 rest.0,
      (and_from (leb low a.0) (rises_from a.0 b.0) (le-leb low a.0 a.2) rest.1.0, (a.3, rest.1.1)),
    )

pub distances_there : (k i low : ℕ) (ds : List ℕ) → Distances low ds → distances_at k i low (map decimal ds) ≡ Ok ds
distances_there k i low [] h = refl
distances_there k i low (d ∷ ds) h =
    let parts = and_parts (leb low d) (rises_from d ds) h.0 in
    let small = h.1.0 in
    bind_is _ (range_there k i 3 low longest d (leb-true low d parts.0) small (omega arith)) ∙ bind_is _ (distances_there k (suc i) d ds (parts.1, h.1.1))
