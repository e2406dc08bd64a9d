-- Reading a number against writing it.
use Rattle.std.proofs.Common.{◌≡◌, ℕ, suc, ◌+◌, ◌-◌, ◌*◌, ◌^◌, ◌<◌, ◌≤◌, true, List, [], ◌∷◌, length, get_or, Ok, decimal, sym, refl, ap, ◌∙◌, ⊎_elim, arith, rules}
use Rattle.std.specs.Char.{is_ascii_digit}
use Rattle.std.specs.Str.{all_ascii_digits}
use Rattle.std.proofs.lemmas.Bool.{cases_lt, and_parts}
use Rattle.std.proofs.lemmas.Bool.Decides.{nat_tests}
use Rattle.std.proofs.lemmas.Str.Parse.{IsNumeralModel, numerals_by_fold, digits_value_short}
use Rattle.std.proofs.lemmas.Fmt.{decimal-digits_value, digits_decimal, digits_value-decimal, length-decimal-le, decimal_nonempty, first_decimal, decimal_digit}
use Rattle.sheet.specs.Numbers.{Writable, read_on, read_number}
use Rattle.sheet.proofs.Parts.{Free}

-- the number that digits write after those of n
abbrev after : ℕ → List ℕ → ℕ
after n [] = n
after n (c ∷ cs) = after (n * 10 + (c - 48)) cs

abbrev AllDigits : List ℕ → Type 0
AllDigits ds = all_ascii_digits ds ≡ true

own : IsNumeralModel AllDigits (after 0)
own = numerals_by_fold AllDigits (search rules) after (search rules)

record Figures (k n : ℕ) (cs : List ℕ) (m : ℕ) : Type 0 where
  plain : all_ascii_digits cs ≡ true
  few : k + length cs ≤ 13
  is : m ≡ after n cs

read_figures : (n k m : ℕ) (cs : List ℕ) → k ≤ 13 → read_on n k cs ≡ Ok m → Figures k n cs m
read_figures n k m [] hk h = record { plain = refl; few = omega arith; is = cc }
read_figures n k m (c ∷ cs) hk h =
    let rest = read_figures (n * 10 + (c - 48)) (suc k) m cs in
    record { plain = grind (arith, nat_tests); few = grind (arith, nat_tests); is = grind (arith, nat_tests) }

figures_read : (n k : ℕ) (cs : List ℕ) → all_ascii_digits cs ≡ true → k + length cs ≤ 13 → read_on n k cs ≡ Ok (after n cs)
figures_read n k [] d h = refl
figures_read n k (c ∷ cs) d h =
    let rest = figures_read (n * 10 + (c - 48)) (suc k) cs in
    grind (arith, nat_tests)

-- a field that holds a number: digits, at most thirteen of them, and a zero in front only alone
record NumberText (text : List ℕ) : Type 0 where
  plain : all_ascii_digits text ≡ true
  some : 0 < length text
  few : length text ≤ 13
  lead : get_or text 0 0 ≡ 48 → length text ≡ 1

text_reads : (text : List ℕ) → NumberText text → read_number text ≡ Ok (after 0 text)
text_reads [] h = let k = h.some in absurd (omega arith)
text_reads (c ∷ []) h =
    let p = h.plain in
    let rest = figures_read 0 0 (c ∷ []) in
    grind (arith, nat_tests)
text_reads (c ∷ d ∷ cs) h =
    let p = h.plain in
    let f = h.few in
    let l = h.lead in
    let rest = figures_read 0 0 (c ∷ d ∷ cs) in
    grind (arith, nat_tests)

reads_text : (text : List ℕ) (n : ℕ) → read_number text ≡ Ok n → NumberText text × (n ≡ after 0 text)
reads_text [] n h = cc
reads_text (c ∷ []) n h =
    let rest = read_figures 0 0 n (c ∷ []) (omega arith) in
    (record { plain = grind (arith, nat_tests); some = omega arith; few = omega arith; lead = λ e. refl }, grind (arith, nat_tests))
reads_text (c ∷ d ∷ cs) n h =
    let rest = read_figures 0 0 n (c ∷ d ∷ cs) (omega arith) in
    (record { plain = grind (arith, nat_tests); some = omega arith; few = grind (arith, nat_tests); lead = λ e. grind (arith, nat_tests) }, grind (arith, nat_tests))

below : (n : ℕ) → Writable n → n < 2 ^ 64
below n h = omega arith

decimal_text : (n : ℕ) → Writable n → NumberText (decimal n)
decimal_text n h = record {
  plain = digits_decimal own n (below n h);
  some = decimal_nonempty n (below n h);
  few = length-decimal-le 13 n (omega arith) h (below n h);
  lead = λ e. ⊎_elim
      (λ (z : n < 1). let one = decimal_digit n (omega arith) in ap length one)
      (λ (z : 1 ≤ n). let f = first_decimal n z (below n h) in absurd (omega arith))
      (cases_lt n 1);
}

pub written_reads : (n : ℕ) → Writable n → read_number (decimal n) ≡ Ok n
written_reads n h = text_reads (decimal n) (decimal_text n h) ∙ ap (λ (m : ℕ). Ok m) (digits_value-decimal own n (below n h))

pub reads_written : (text : List ℕ) (n : ℕ) → read_number text ≡ Ok n → (text ≡ decimal n) × Writable n
reads_written text n h =
    let got = reads_text text n h in
    let t = got.0 in
    let short : after 0 text < 10 ^ 13 = digits_value_short own text 13 t.plain t.few in
    let small : n < 10 ^ 13 = omega arith in
    (sym (decimal-digits_value own text t.plain t.some t.lead (omega arith)) ∙ ap decimal (sym got.1), small)

pub decimal_short : (n : ℕ) → Writable n → length (decimal n) ≤ 13
decimal_short n h = length-decimal-le 13 n (omega arith) h (below n h)

-- digits are no tab, and no end of a line
digits_free : (s : ℕ) (ds : List ℕ) → s < 48 → all_ascii_digits ds ≡ true → Free s ds
digits_free s [] h d = tt
digits_free s (c ∷ cs) h d =
    let parts = and_parts (is_ascii_digit c) (all_ascii_digits cs) d in
    let digit = parts.0 in
    ((λ e. grind (arith, nat_tests)), digits_free s cs h parts.1)

pub decimal_free : (s n : ℕ) → s < 48 → Writable n → Free s (decimal n)
decimal_free s n h w = digits_free s (decimal n) h (digits_decimal own n (below n w))
