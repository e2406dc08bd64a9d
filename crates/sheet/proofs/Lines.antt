-- Good lines, one after another, against the entries and calls that they say.
use Rattle.std.proofs.Common.{◌≡◌, ℕ, suc, ◌+◌, ◌-◌, ◌<◌, ◌≤◌, true, ◌⊎◌, List, [], ◌∷◌, ◌++◌, map, length, Ok, sym, refl, ap, ◌∙◌, inl, inr, ⊎_elim, arith}
use Rattle.std.specs.List.{join_with_byte, AllByRecursion}
use Rattle.std.proofs.lemmas.Bool.{ltb-true}
use Rattle.sheet.specs.Parts.{tab, parted}
use Rattle.sheet.specs.Sheet.{Entry, Sheet, entry_fields, ask_fields, entry_lines, one_request, requests, Hangable, BothWritable}
use Rattle.sheet.specs.Check.{Row, room, row, requests_in, with_row}
use Rattle.sheet.specs.declared.ask.Wish.{Wish}
use Rattle.sheet.specs.declared.ask.Wish.TheVariants.{Request, Take, Gap}
use Rattle.sheet.specs.declared.ask.Ask.{Ask}
use Rattle.sheet.proofs.Parts.{rejoined-parted}
use Rattle.sheet.proofs.Rows.{BellLine, CallLine, row_back}

-- the lines of entries, from bell n on, and calls
abbrev pub lines_of : ℕ → List Entry → List Ask → List (List (List ℕ))
lines_of n es asks = entry_lines n es ++ map ask_fields asks

-- parts that are good lines, after n lines and q requests
pub record Good (n q : ℕ) (parts : List (List ℕ)) (es : List Entry) (asks : List Ask) : Type 0 where
  pub text : parts ≡ map (join_with_byte tab) (lines_of n es asks)
  pub count : length parts ≡ length es + length asks
  pub eight : length es ≤ 8 - n
  pub placed : (asks ≡ []) ⊎ (8 ≤ n + length es)
  pub hangable : AllByRecursion Hangable es
  pub writable : AllByRecursion BothWritable asks
  pub few : q ≤ 1024 → q + requests asks ≤ 1024

pub none_good : (n q : ℕ) → Good n q [] [] []
none_good n q = record { text = refl; count = refl; eight = omega arith; placed = inl refl; hangable = tt; writable = tt; few = omega arith }

good_bell : (n q : ℕ) (part : List ℕ) (parts : List (List ℕ)) (e : Entry) (es : List Entry) (asks : List Ask) → n < 8 → part ≡ join_with_byte tab (entry_fields n e) → Hangable e → Good (suc n) (q + 0) parts es asks → Good n q (part ∷ parts) (e ∷ es) asks
good_bell n q part parts e es asks n₈ is h g =
    let count = g.count in
    let eight = g.eight in
    let few = g.few in
    let text = g.text in
    record {
      text = cc;
      count = omega arith;
      eight = omega arith;
      placed = ⊎_elim (λ p. inl p) (λ p. inr (omega arith)) g.placed;
      hangable = (h, g.hangable);
      writable = g.writable;
      few = omega arith;
    }

pub roomy : (w : Wish) (q : ℕ) → room w q ≡ true → q ≤ 1024 → q + one_request w ≤ 1024
roomy Request q h l = let k = ltb-true q 1024 h in omega arith
roomy Take q h l = omega arith
roomy Gap q h l = omega arith

good_call : (n q : ℕ) (part : List ℕ) (parts : List (List ℕ)) (a : Ask) (es : List Entry) (asks : List Ask) → 8 ≤ n → part ≡ join_with_byte tab (ask_fields a) → BothWritable a → room a.wish q ≡ true → Good (suc n) (q + one_request a.wish) parts es asks → Good n q (part ∷ parts) es (a ∷ asks)
good_call n q part parts a (e ∷ es) asks n₈ is w r g = let eight = g.eight in absurd (omega arith)
good_call n q part parts a [] asks n₈ is w r g =
    let count = g.count in
    let left = roomy a.wish q r in
    let few = g.few in
    let text = g.text in
    record { text = cc; count = omega arith; eight = omega arith; placed = inr (omega arith); hangable = tt; writable = (w, g.writable); few = λ h. omega (arith, few (left h)) }

-- a line is its fields, joined
line_is : (part : List ℕ) (fs : List (List ℕ)) → parted tab part ≡ fs → part ≡ join_with_byte tab fs
line_is part fs e = sym (rejoined-parted tab part) ∙ ap (join_with_byte tab) e

pub good_row : (n q : ℕ) (part : List ℕ) (parts : List (List ℕ)) (r : Row) (s : Sheet) → row (suc n) q (parted tab part) ≡ Ok r → Good (suc n) (q + requests_in r) parts s.entries s.asks → Good n q (part ∷ parts) (with_row r s).entries (with_row r s).asks
good_row n q part parts r s h g = ⊎_elim
    (λ (l : BellLine n (parted tab part) r). rw l.is (good_bell n q part parts l.entry s.entries s.asks l.early (line_is part (entry_fields n l.entry) l.fields) l.hangable (rw l.is at g)))
    (λ (l : CallLine n q (parted tab part) r). rw l.is (good_call n q part parts l.ask s.entries s.asks l.late (line_is part (ask_fields l.ask) l.fields) l.writable l.roomy (rw l.is at g)))
    (row_back n q (parted tab part) r h)
