-- Good lines begin a sheet: after the eighth they are one, before it plain bells are missing.
use Rattle.std.proofs.Common.{◌≡◌, ℕ, zero, suc, ◌+◌, ◌-◌, ◌*◌, ◌≤◌, ◌⊎◌, List, [], ◌∷◌, ◌++◌, map, length, replicate, Ok, decimal, sym, refl, ap, ◌∙◌, subst, inl, inr, append-nil, arith, length-append}
use Rattle.std.proofs.lemmas.List.{length-map, length-replicate}
use Rattle.std.proofs.lemmas.Grind.{flat_map-append}
use Rattle.std.specs.List.{join_with_byte, flat_map, AllByRecursion}
use Rattle.std.proofs.ByRecursion.{All-append, All-map, All-weaker}
use Rattle.limits.specs.Strokes.{longest}
use Rattle.sheet.specs.Parts.{tab, newline}
use Rattle.sheet.specs.Sheet.{Entry, Sheet, entry_fields, entry_lines, line, sheet_text, Hangable, WellMade}
use Rattle.sheet.specs.Check.{check}
use Rattle.sheet.specs.declared.ask.Ask.{Ask}
use Rattle.sheet.proofs.Numbers.{decimal_short}
use Rattle.sheet.proofs.Lines.{lines_of, Good}
use Rattle.sheet.proofs.Sheets.{accepts}

entries-append : (n : ℕ) (es ds : List Entry) → entry_lines n (es ++ ds) ≡ entry_lines n es ++ entry_lines (n + length es) ds
entries-append n [] ds = ap (λ (m : ℕ). entry_lines m ds) (omega arith)
entries-append n (e ∷ es) ds =
    let m : suc n + length es ≡ n + suc (length es) = omega arith in
    ap (λ (ls : List (List (List ℕ))). entry_fields n e ∷ ls) (entries-append (suc n) es ds ∙ ap (λ (k : ℕ). entry_lines (suc n) es ++ entry_lines k ds) m)

abbrev plain : Entry
plain = record { burst₁ = 1; period₁ = 1; burst₂ = 1; period₂ = 1; distances = [] }

plain_hangable : (k : ℕ) → AllByRecursion Hangable (replicate k plain)
plain_hangable zero = tt
plain_hangable (suc k) = (
  record { stair₁ = (omega arith, omega arith, omega arith, omega arith); stair₂ = (omega arith, omega arith, omega arith, omega arith); few = omega arith; rising = refl; small = tt },
  plain_hangable k,
)

-- an entry's line is short
abbrev Short : List ℕ → Type 0
Short p = length p ≤ 13

rejoined_short : (ps : List (List ℕ)) → AllByRecursion Short ps → length (join_with_byte tab ps) ≤ 14 * length ps
rejoined_short [] h = omega arith
rejoined_short (p ∷ []) h = let l = h.0 in omega arith
rejoined_short (p ∷ q ∷ ps) h =
    let l = h.0 in
    let rest = rejoined_short (q ∷ ps) h.1 in
    omega (arith, length-append p (tab ∷ join_with_byte tab (q ∷ ps)))

entry_short : (n : ℕ) (e : Entry) → n ≤ 8 → Hangable e → length (line (entry_fields n e)) ≤ 400
entry_short n e n₈ g =
    let s₁ = g.stair₁ in
    let s₂ = g.stair₂ in
    let few = g.few in
    let own : AllByRecursion Short (map decimal e.distances) = All-map Short decimal e.distances (All-weaker (λ d. d ≤ longest) (λ d. Short (decimal d)) (λ d h. decimal_short d (omega arith)) e.distances g.small) in
    let all : AllByRecursion Short (entry_fields n e) = (omega arith, (decimal_short n (omega arith), (decimal_short e.burst₁ (omega arith), (decimal_short e.period₁ (omega arith), (decimal_short e.burst₂ (omega arith), (decimal_short e.period₂ (omega arith), own)))))) in
    omega (arith, length-append (join_with_byte tab (entry_fields n e)) (newline ∷ []), rejoined_short (entry_fields n e) all, length-map e.distances decimal)

entries_short : (n : ℕ) (es : List Entry) → n + length es ≤ 8 → AllByRecursion Hangable es → length (flat_map line (entry_lines n es)) ≤ 400 * length es
entries_short n [] n₈ h = omega arith
entries_short n (e ∷ es) n₈ h =
    let here = entry_short n e (omega arith) h.0 in
    let rest = entries_short (suc n) es (omega arith) h.1 in
    omega (arith, length-append (line (entry_fields n e)) (flat_map line (entry_lines (suc n) es)))

abbrev pub Completed : List ℕ → Type 0
Completed front = (s : Sheet) × (rest : List ℕ) × (check (front ++ rest) ≡ Ok s)

completed : (s : Sheet) (front rest : List ℕ) → WellMade s → sheet_text s ≡ front ++ rest → Completed front
completed s front rest p e = (s, rest, ap check (sym e) ∙ accepts s p)

pub complete : (parts : List (List ℕ)) (es : List Entry) (asks : List Ask) (front : List ℕ) → Good 0 0 parts es asks → front ≡ flat_map line (lines_of 0 es asks) → length front ≤ 16384 → Completed front
complete parts es asks front good is short = go good.placed
  where
    go : (asks ≡ []) ⊎ (8 ≤ 0 + length es) → Completed front
    go (inr full) =
        let most = good.eight in
        let few = good.few (omega arith) in
        completed (record { entries = es; asks = asks }) front [] (record { eight = omega arith; hangable = good.hangable; writable = good.writable; few = omega arith; short = subst (λ (t : List ℕ). length t ≤ 16384) is short }) (sym is ∙ sym (append-nil front))
    go (inl none) =
        let most = good.eight in
        let k : ℕ = 8 - length es in
        let more : List Entry = replicate k plain in
        let rest : List ℕ = flat_map line (entry_lines (0 + length es) more) in
        let size : length (es ++ more) ≡ 8 = omega (arith, length-append es more, length-replicate k plain) in
        let hangable = All-append Hangable es more good.hangable (plain_hangable k) in
        let begin : front ≡ flat_map line (entry_lines 0 es) = is ∙ ap (λ (xs : List Ask). flat_map line (lines_of 0 es xs)) none ∙ ap (flat_map line) (append-nil (entry_lines 0 es)) in
        let whole : flat_map line (entry_lines 0 (es ++ more)) ≡ front ++ rest = ap (flat_map line) (entries-append 0 es more) ∙ flat_map-append line (entry_lines 0 es) (entry_lines (0 + length es) more) ∙ ap (λ (t : List ℕ). t ++ rest) (sym begin) in
        let small = entries_short 0 (es ++ more) (omega arith) hangable in
        let text : sheet_text (record { entries = es ++ more; asks = [] }) ≡ front ++ rest = ap (flat_map line) (append-nil (entry_lines 0 (es ++ more))) ∙ whole in
        let fits : length (front ++ rest) ≤ 16384 = rw (← whole) (omega arith) in
        completed (record { entries = es ++ more; asks = [] }) front rest (record { eight = size; hangable = hangable; writable = tt; few = omega arith; short = rw text fits }) text
