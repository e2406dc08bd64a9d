-- One line of a sheet: what the check of it finds, against the fields that are written.
use Rattle.std.proofs.Common.{◌≡◌, ℕ, suc, ◌-◌, ◌<◌, ◌≤◌, true, ◌&&◌, eqb, ltb, leb, ◌⊎◌, List, [], ◌∷◌, length, drop, Some, None, Ok, decimal, Option, refl, ap, ◌∙◌, inl, inr, arith, length-drop}
use Rattle.std.proofs.lemmas.List.{length-map}
use Rattle.std.specs.List.{AllByRecursion}
use Rattle.std.proofs.ByRecursion.{All-map, All-weaker}
use Rattle.std.proofs.lemmas.Bool.{and_parts, and_from, leb-true, le-leb, eqb-true, ltb-true, lt-ltb}
use Rattle.std.proofs.lemmas.Bool.Decides.{nat_tests}
use Rattle.limits.specs.Strokes.{longest}
use Rattle.sheet.specs.Sheet.{Entry, Kind, bell, call, letter, entry_fields, ask_fields, Hangable, BothWritable}
use Rattle.sheet.specs.Faults.{at}
use Rattle.sheet.specs.Check.{number_at, distances_at, field_at, kind_of, Row, of_bell, of_call, bell_row, room, call_row, row_of, row}
use Rattle.sheet.specs.declared.ask.Wish.{Wish}
use Rattle.sheet.specs.declared.ask.Wish.TheVariants.{Request, Take, Gap}
use Rattle.sheet.specs.declared.ask.Ask.{Ask}
use Rattle.sheet.proofs.Parts.{Free}
use Rattle.sheet.proofs.Numbers.{decimal_free}
use Rattle.sheet.proofs.Steps.{bind_is, must_is, bind_ok, must_ok}
use Rattle.sheet.proofs.Fields.{number_back, number_there, range_there, range_ok, distances_back, distances_there}

six : (fs : List (List ℕ)) → 6 ≤ length fs → fs ≡ field_at 1 fs ∷ field_at 2 fs ∷ field_at 3 fs ∷ field_at 4 fs ∷ field_at 5 fs ∷ field_at 6 fs ∷ drop 6 fs
six [] h = absurd (omega arith)
six (a ∷ []) h = absurd (omega arith)
six (a ∷ b ∷ []) h = absurd (omega arith)
six (a ∷ b ∷ c ∷ []) h = absurd (omega arith)
six (a ∷ b ∷ c ∷ d ∷ []) h = absurd (omega arith)
six (a ∷ b ∷ c ∷ d ∷ e ∷ []) h = absurd (omega arith)
six (a ∷ b ∷ c ∷ d ∷ e ∷ f ∷ fs) h = refl

three : (fs : List (List ℕ)) → length fs ≡ 3 → fs ≡ field_at 1 fs ∷ field_at 2 fs ∷ field_at 3 fs ∷ []
three [] h = absurd (omega arith)
three (a ∷ []) h = absurd (omega arith)
three (a ∷ b ∷ []) h = absurd (omega arith)
three (a ∷ b ∷ c ∷ []) h = refl
three (a ∷ b ∷ c ∷ d ∷ fs) h = absurd (omega arith)

pub kind_back : (text : List ℕ) (x : Kind) → kind_of text ≡ Some x → text ≡ letter x ∷ []
kind_back [] x h = cc
kind_back (c ∷ []) x h = grind (arith, nat_tests)
kind_back (c ∷ d ∷ cs) x h = cc

kind_there : (x : Kind) → kind_of (letter x ∷ []) ≡ Some x
kind_there bell = refl
kind_there (call Request) = refl
kind_there (call Take) = refl
kind_there (call Gap) = refl

-- a bell's line, after n lines
pub record BellLine (n : ℕ) (fs : List (List ℕ)) (r : Row) : Type 0 where
  pub entry : Entry
  pub is : r ≡ of_bell entry
  pub fields : fs ≡ entry_fields n entry
  pub hangable : Hangable entry
  pub early : n < 8

bell_back : (n : ℕ) (fs : List (List ℕ)) (r : Row) → field_at 1 fs ≡ letter bell ∷ [] → bell_row (suc n) fs ≡ Ok r → BellLine n fs r
bell_back n fs r first h =
    let k = suc n in
    let a = must_ok (leb 6 (length fs) && leb (length fs) 22) (at k 0 4) _ r h in
    let b = must_ok (leb k 8) (at k 1 15) _ r a.1 in
    let c = range_ok k 2 15 (k - 1) (k - 1) (field_at 2 fs) _ r b.1 in
    let n₁ = range_ok k 3 3 1 255 (field_at 3 fs) _ r c.4 in
    let p₁ = range_ok k 4 3 1 longest (field_at 4 fs) _ r n₁.4 in
    let n₂ = range_ok k 5 3 1 255 (field_at 5 fs) _ r p₁.4 in
    let p₂ = range_ok k 6 3 1 longest (field_at 6 fs) _ r n₂.4 in
    let ds = bind_ok (distances_at k 7 0 (drop 6 fs)) _ r p₂.4 in
    let rest = distances_back k 7 0 (drop 6 fs) ds.0 ds.1 in
    let count = and_parts (leb 6 (length fs)) (leb (length fs) 22) a.0 in
    let many : 6 ≤ length fs = leb-true 6 (length fs) count.0 in
    let few : length fs ≤ 22 = leb-true (length fs) 22 count.1 in
    let next : c.0 ≡ n = omega arith in
    record {
      entry = record { burst₁ = n₁.0; period₁ = p₁.0; burst₂ = n₂.0; period₂ = p₂.0; distances = ds.0 };
      is = cc ds.2;
      fields = cc (six fs many, first, c.1, next, n₁.1, p₁.1, n₂.1, p₂.1, rest.0);
      hangable = record {
        stair₁ = (n₁.2, n₁.3, p₁.2, p₁.3);
        stair₂ = (n₂.2, n₂.3, p₂.2, p₂.3);
        few = omega (arith, length-drop 6 fs, ap length rest.0, length-map ds.0 decimal);
        rising = rest.1.0;
        small = rest.1.1;
      };
      early = leb-true k 8 b.0;
    }

pub bell_there : (n q : ℕ) (e : Entry) → n < 8 → Hangable e → row (suc n) q (entry_fields n e) ≡ Ok (of_bell e)
bell_there n q e n₈ h =
    let k = suc n in
    let fs = entry_fields n e in
    let d = length-map e.distances decimal in
    let s₁ = h.stair₁ in
    let s₂ = h.stair₂ in
    let few = h.few in
    must_is _ _ (and_from (leb 6 (length fs)) (leb (length fs) 22) (le-leb 6 (length fs) (omega arith)) (le-leb (length fs) 22 (omega arith)))
    ∙ must_is _ _ (le-leb k 8 n₈)
    ∙ bind_is _ (range_there k 2 15 (k - 1) (k - 1) n (omega arith) (omega arith) (omega arith))
    ∙ bind_is _ (range_there k 3 3 1 255 e.burst₁ s₁.0 s₁.1 (omega arith))
    ∙ bind_is _ (range_there k 4 3 1 longest e.period₁ s₁.2 s₁.3 (omega arith))
    ∙ bind_is _ (range_there k 5 3 1 255 e.burst₂ s₂.0 s₂.1 (omega arith))
    ∙ bind_is _ (range_there k 6 3 1 longest e.period₂ s₂.2 s₂.3 (omega arith))
    ∙ bind_is _ (distances_there k 7 0 e.distances (h.rising, h.small))

-- a call's line, after n lines and q requests
pub record CallLine (n q : ℕ) (fs : List (List ℕ)) (r : Row) : Type 0 where
  pub ask : Ask
  pub is : r ≡ of_call ask
  pub fields : fs ≡ ask_fields ask
  pub writable : BothWritable ask
  pub late : 8 ≤ n
  pub roomy : room ask.wish q ≡ true

call_back : (n q : ℕ) (w : Wish) (fs : List (List ℕ)) (r : Row) → field_at 1 fs ≡ letter (call w) ∷ [] → call_row (suc n) q w fs ≡ Ok r → CallLine n q fs r
call_back n q w fs r first h =
    let k = suc n in
    let a = must_ok (eqb (length fs) 3) (at k 0 4) _ r h in
    let b = must_ok (ltb 8 k) (at k 1 15) _ r a.1 in
    let c = must_ok (room w q) (at k 1 12) _ r b.1 in
    let m = bind_ok (number_at k 2 (field_at 2 fs)) _ r c.1 in
    let t = bind_ok (number_at k 3 (field_at 3 fs)) _ r m.2 in
    let f₂ = number_back k 2 (field_at 2 fs) m.0 m.1 in
    let f₃ = number_back k 3 (field_at 3 fs) t.0 t.1 in
    let late = ltb-true 8 k b.0 in
    record {
      ask = record { wish = w; bell = m.0; tick = t.0 };
      is = cc t.2;
      fields = cc (three fs (eqb-true (length fs) 3 a.0), first, f₂.0, f₃.0);
      writable = (f₂.1, f₃.1);
      late = omega arith;
      roomy = c.0;
    }

pub call_there : (n q : ℕ) (a : Ask) → 8 ≤ n → room a.wish q ≡ true → BothWritable a → row (suc n) q (ask_fields a) ≡ Ok (of_call a)
call_there n q a n₈ room h =
    ap (row_of (suc n) q (ask_fields a)) (kind_there (call a.wish))
    ∙ must_is _ _ (lt-ltb 8 (suc n) (omega arith))
    ∙ must_is _ _ room
    ∙ bind_is _ (number_there (suc n) 2 a.bell h.0)
    ∙ bind_is _ (number_there (suc n) 3 a.tick h.1)

pub row_back : (n q : ℕ) (fs : List (List ℕ)) (r : Row) → row (suc n) q fs ≡ Ok r → BellLine n fs r ⊎ CallLine n q fs r
row_back n q fs r h = go (kind_of (field_at 1 fs)) refl h
  where
    go : (o : Option Kind) → kind_of (field_at 1 fs) ≡ o → row_of (suc n) q fs o ≡ Ok r → BellLine n fs r ⊎ CallLine n q fs r
    go None e h = cc
    go (Some bell) e h = inl (bell_back n fs r (kind_back (field_at 1 fs) bell e) h)
    go (Some (call w)) e h = inr (call_back n q w fs r (kind_back (field_at 1 fs) (call w) e) h)

-- the fields that are written hold no tab, and no end of a line
letter_free : (s : ℕ) (x : Kind) → s < 48 → (letter x ≡ s) → ⊥
letter_free s bell h e = omega arith
letter_free s (call Request) h e = omega arith
letter_free s (call Take) h e = omega arith
letter_free s (call Gap) h e = omega arith

pub entry_free : (s n : ℕ) (e : Entry) → s < 48 → n ≤ 8 → Hangable e → AllByRecursion (Free s) (entry_fields n e)
entry_free s n e h n₈ g =
    let s₁ = g.stair₁ in
    let s₂ = g.stair₂ in
    let own = All-map (Free s) decimal e.distances (All-weaker (λ d. d ≤ longest) (λ d. Free s (decimal d)) (λ d l. decimal_free s d h (omega arith)) e.distances g.small) in
    ((letter_free s bell h, tt), (decimal_free s n h (omega arith), (decimal_free s e.burst₁ h (omega arith), (decimal_free s e.period₁ h (omega arith), (decimal_free s e.burst₂ h (omega arith), (decimal_free s e.period₂ h (omega arith), own))))))

pub ask_free : (s : ℕ) (a : Ask) → s < 48 → BothWritable a → AllByRecursion (Free s) (ask_fields a)
ask_free s a h w = ((letter_free s (call a.wish) h, tt), (decimal_free s a.bell h w.0, (decimal_free s a.tick h w.1, tt)))
