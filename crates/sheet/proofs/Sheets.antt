-- The check of a sheet against what is written: it accepts that and nothing else.
use Rattle.std.proofs.Common.{◌≡◌, ℕ, suc, ◌+◌, ◌<◌, ◌≤◌, true, eqb, ltb, leb, List, [], ◌∷◌, ◌++◌, map, length, Ok, sym, refl, ap, ◌∙◌, subst, ⊎_elim, arith}
use Rattle.std.specs.List.{join_with_byte, AllByRecursion}
use Rattle.std.proofs.ByRecursion.{All-map, All-weaker}
use Rattle.std.proofs.lemmas.List.{nil_from_length}
use Rattle.std.proofs.lemmas.Bool.{leb-true, le-leb, eqb-true, ltb-true, lt-ltb}
use Rattle.sheet.specs.Parts.{tab, newline, parted}
use Rattle.sheet.specs.Sheet.{Entry, Sheet, entry_fields, ask_fields, sheet_text, one_request, requests, Hangable, BothWritable, WellMade}
use Rattle.sheet.specs.Faults.{at}
use Rattle.sheet.specs.Check.{Row, of_bell, of_call, room, row, requests_in, with_row, check_from, check}
use Rattle.sheet.specs.declared.ask.Wish.{Wish}
use Rattle.sheet.specs.declared.ask.Wish.TheVariants.{Request, Take, Gap}
use Rattle.sheet.specs.declared.ask.Ask.{Ask}
use Rattle.sheet.proofs.Parts.{Free, ended, rejoined-parted, parted-rejoined, lines_rejoined, lines_parted, free_rejoined, some_ended}
use Rattle.sheet.proofs.Steps.{bind_is, must_is, bind_ok, must_ok}
use Rattle.sheet.proofs.Rows.{bell_there, call_there, entry_free, ask_free}
use Rattle.sheet.proofs.Lines.{lines_of, Good, none_good, good_row}

-- what is accepted, after n lines and q requests: good lines, an end, and by then eight bells
abbrev Found : ℕ → ℕ → List (List ℕ) → Sheet → Type 0
Found n q parts s = (front : List (List ℕ)) × (parts ≡ front ++ ([] ∷ [])) × (8 ≤ n + length front) × Good n q front s.entries s.asks

found : (n q : ℕ) (parts : List (List ℕ)) (s : Sheet) → check_from (suc n) q parts ≡ Ok s → Found n q parts s
found n q [] s h = cc
found n q (part ∷ []) s h =
    let a = must_ok (eqb (length part) 0) (at (suc n) 0 4) _ s h in
    let b = must_ok (ltb 8 (suc n)) (at (suc n) 0 15) _ s a.1 in
    let none = nil_from_length part (eqb-true (length part) 0 a.0) in
    let late = ltb-true 8 (suc n) b.0 in
    subst (Found n q (part ∷ [])) (cc b.1) ([], ap (λ (p : List ℕ). p ∷ []) none, omega arith, none_good n q)
found n q (part ∷ next ∷ parts) s h =
    let a = bind_ok (row (suc n) q (parted tab part)) _ s h in
    let b = bind_ok (check_from (suc (suc n)) (q + requests_in a.0) (next ∷ parts)) _ s a.2 in
    let rest = found (suc n) (q + requests_in a.0) (next ∷ parts) b.0 b.1 in
    let late = rest.2 in
    subst (Found n q (part ∷ next ∷ parts)) (cc b.2) (part ∷ rest.0, ap (λ (ps : List (List ℕ)). part ∷ ps) rest.1, omega arith, good_row n q part rest.0 a.0 b.0 a.1 rest.3)

pub accepted : (bytes : List ℕ) (s : Sheet) → check bytes ≡ Ok s → (bytes ≡ sheet_text s) × WellMade s
accepted bytes s h =
    let a = must_ok (leb (length bytes) 16384) (at 1 0 6) _ s h in
    let f = found 0 0 (parted newline bytes) s a.1 in
    let good = f.3 in
    let text : bytes ≡ sheet_text s = sym (rejoined-parted newline bytes) ∙ ap (join_with_byte newline) (f.1 ∙ ap (λ (ps : List (List ℕ)). ps ++ ([] ∷ [])) good.text) ∙ lines_rejoined (lines_of 0 s.entries s.asks) in
    let late = f.2 in
    let count = good.count in
    let most = good.eight in
    let few = good.few (omega arith) in
    let least : 8 ≤ length s.entries = ⊎_elim (λ (e : s.asks ≡ []). let none = ap length e in omega arith) (λ (p : 8 ≤ 0 + length s.entries). omega arith) good.placed in
    (text, record { eight = omega arith; hangable = good.hangable; writable = good.writable; few = omega arith; short = subst (λ (t : List ℕ). length t ≤ 16384) text (leb-true (length bytes) 16384 a.0) })

-- the other way: the lines that are written, one by one
check_step : (k q : ℕ) (fs : List (List ℕ)) (parts : List (List ℕ)) (r : Row) (s : Sheet) → 0 < length fs → AllByRecursion (Free tab) fs → 0 < length parts → row k q fs ≡ Ok r → check_from (suc k) (q + requests_in r) parts ≡ Ok s → check_from k q (join_with_byte tab fs ∷ parts) ≡ Ok (with_row r s)
check_step k q fs [] r s some free l h g = absurd (omega arith)
check_step k q fs (next ∷ parts) r s some free l h g = bind_is _ (ap (row k q) (parted-rejoined tab fs some free) ∙ h) ∙ bind_is _ g

room_left : (w : Wish) (q : ℕ) → q + one_request w ≤ 1024 → room w q ≡ true
room_left Request q h = lt-ltb q 1024 (omega arith)
room_left Take q h = refl
room_left Gap q h = refl

calls_there : (n q : ℕ) (asks : List Ask) → 8 ≤ n → AllByRecursion BothWritable asks → q + requests asks ≤ 1024 → check_from (suc n) q (ended (map ask_fields asks)) ≡ Ok (record { entries = []; asks = asks })
calls_there n q [] n₈ w few = must_is _ _ (lt-ltb 8 (suc n) (omega arith))
calls_there n q (a ∷ asks) n₈ w few =
    check_step (suc n) q (ask_fields a) (ended (map ask_fields asks)) (of_call a) (record { entries = []; asks = asks }) (omega arith) (ask_free tab a (omega arith) w.0) (some_ended (map ask_fields asks))
    (call_there n q a n₈ (room_left a.wish q (omega arith)) w.0)
    (calls_there (suc n) (q + one_request a.wish) asks (omega arith) w.1 (omega arith))

bells_there : (n q : ℕ) (es : List Entry) (asks : List Ask) → n + length es ≡ 8 → AllByRecursion Hangable es → AllByRecursion BothWritable asks → q + requests asks ≤ 1024 → check_from (suc n) q (ended (lines_of n es asks)) ≡ Ok (record { entries = es; asks = asks })
bells_there n q [] asks e₈ h w few = calls_there n q asks (omega arith) w few
bells_there n q (e ∷ es) asks e₈ h w few =
    check_step (suc n) q (entry_fields n e) (ended (lines_of (suc n) es asks)) (of_bell e) (record { entries = es; asks = asks }) (omega arith) (entry_free tab n e (omega arith) (omega arith) h.0) (some_ended (lines_of (suc n) es asks))
    (bell_there n q e (omega arith) h.0)
    (bells_there (suc n) (q + 0) es asks (omega arith) h.1 w (omega arith))

-- no line that is written holds the end of a line
abbrev Unbroken : List (List ℕ) → Type 0
Unbroken fs = Free newline (join_with_byte tab fs)

unbroken : (fs : List (List ℕ)) → AllByRecursion (Free newline) fs → Unbroken fs
unbroken fs f = free_rejoined newline tab fs (λ e. omega arith) f

calls_unbroken : (asks : List Ask) → AllByRecursion BothWritable asks → AllByRecursion Unbroken (map ask_fields asks)
calls_unbroken asks w = All-map Unbroken ask_fields asks (All-weaker BothWritable (λ a. Unbroken (ask_fields a)) (λ a w. unbroken (ask_fields a) (ask_free newline a (omega arith) w)) asks w)

lines_unbroken : (n : ℕ) (es : List Entry) (asks : List Ask) → n + length es ≡ 8 → AllByRecursion Hangable es → AllByRecursion BothWritable asks → AllByRecursion Unbroken (lines_of n es asks)
lines_unbroken n [] asks e₈ h w = calls_unbroken asks w
lines_unbroken n (e ∷ es) asks e₈ h w = (unbroken (entry_fields n e) (entry_free newline n e (omega arith) (omega arith) h.0), lines_unbroken (suc n) es asks (omega arith) h.1 w)

pub accepts : (s : Sheet) → WellMade s → check (sheet_text s) ≡ Ok s
accepts s p =
    let eight = p.eight in
    let few = p.few in
    let lines = lines_of 0 s.entries s.asks in
    must_is _ _ (le-leb (length (sheet_text s)) 16384 p.short)
    ∙ ap (check_from 1 0) (lines_parted lines (lines_unbroken 0 s.entries s.asks (omega arith) p.hangable p.writable))
    ∙ bells_there 0 0 s.entries s.asks (omega arith) p.hangable p.writable (omega arith)
