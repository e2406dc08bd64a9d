-- A burst, stroke by stroke.
use Rattle.std.proofs.Common.{◌≡◌, ℕ, suc, ◌+◌, ◌-◌, ◌<◌, ◌≤◌, List, [], ◌∷◌, ◌++◌, length, take, drop, set, replicate, Some, None, Ok, Option, sym, refl, ap, ◌∙◌, append_assoc, append-nil, arith, length-set, length-take-le}
use Rattle.std.proofs.lemmas.List.{take_more_set, take-append-drop, drop-set-lt, drop-drop}
use Rattle.std.proofs.lemmas.Bool.Decides.{nat_tests}
use Rattle.limits.specs.Strokes.{last_tick}
use Rattle.rules.specs.Rules.{Meaning, struck, earliest}
use Rattle.rules.specs.Bursts.{dues, struck_by, Burst}

-- one request more
dues_by : (m : Meaning) (a : ℕ) (as' : List ℕ) (r : Option ℕ) → earliest m a ≡ r → dues m (a ∷ as') ≡ elim r [ Some d ↦ d ∷ dues (struck d m) as' | None ↦ [] ]
dues_by m a as' r e = rw (e, dues)

dues_some : (m : Meaning) (a d : ℕ) (as' : List ℕ) → earliest m a ≡ Some d → dues m (a ∷ as') ≡ d ∷ dues (struck d m) as'
dues_some m a d as' e = dues_by m a as' (Some d) e

dues_none : (m : Meaning) (a : ℕ) (as' : List ℕ) → earliest m a ≡ None → dues m (a ∷ as') ≡ []
dues_none m a as' e = dues_by m a as' None e

struck_push : (ts : List ℕ) (d : ℕ) (m : Meaning) → struck_by (ts ++ (d ∷ [])) m ≡ struck d (struck_by ts m)
struck_push [] d m = refl
struck_push (t ∷ ts) d m = struck_push ts d (struck t m)

drop_one : (xs ys : List ℕ) (i : ℕ) → drop i xs ≡ drop i ys → drop (i + 1) xs ≡ drop (i + 1) ys
drop_one xs ys i e = sym (drop-drop 1 i xs) ∙ ap (drop 1) e ∙ drop-drop 1 i ys

-- a burst of which the first i strokes are done: the places as they were, and as they are
pub record Bursting (m₀ : Meaning) (a : ℕ) (places : List ℕ) (i : ℕ) (m : Meaning) (now : List ℕ) : Type 0 where
  pub long : length now ≡ length places
  pub rest : drop i now ≡ drop i places
  pub dues_so : dues m₀ (replicate (length places) a) ≡ take i now ++ dues m (replicate (length places - i) a)
  pub rule_so : m ≡ struck_by (take i now) m₀

module _ (m₀ : Meaning) (a : ℕ) (places : List ℕ) (i : ℕ) (m : Meaning) (now : List ℕ) where
  pub bursting_more : (d : ℕ) (m' : Meaning) → i < length places → Bursting m₀ a places i m now → earliest m a ≡ Some d → m' ≡ struck d m → Bursting m₀ a places (i + 1) m' (set now i d)
  bursting_more d m' l b e s =
      let n = b.long in
      let front = take_more_set now i d (omega arith) in
      let k : length places - i ≡ suc (length places - (i + 1)) = omega arith in
      record {
        long = length-set now i d ∙ b.long;
        rest = drop-set-lt (i + 1) now i d (omega arith) ∙ drop_one now places i b.rest;
        dues_so = b.dues_so ∙ rw (k, front, dues_some m a d (replicate (length places - (i + 1)) a) e, s, append_assoc);
        rule_so = rw (front, struck_push, ← b.rule_so) s;
      }

  -- it ends where nothing more is due
  pub bursting_ends : i ≤ length places → a ≤ last_tick → Bursting m₀ a places i m now → dues m (replicate (length places - i) a) ≡ [] → Burst m₀ a places (Ok i) now m
  bursting_ends l la b none =
      let n = b.long in
      let all : dues m₀ (replicate (length places) a) ≡ take i now = b.dues_so ∙ rw none (append-nil (take i now)) in
      let long : length (take i now) ≡ i = length-take-le i now (omega arith) in
      record {
        answered = rw (all, long) (grind (arith, nat_tests));
        written = rw (all, long) (sym (take-append-drop i now) ∙ ap (λ (r : List ℕ). take i now ++ r) b.rest);
        struck_so = rw all b.rule_so;
      }

  pub bursting_shut : i < length places → a ≤ last_tick → Bursting m₀ a places i m now → earliest m a ≡ None → Burst m₀ a places (Ok i) now m
  bursting_shut l la b e = let k : length places - i ≡ suc (length places - (i + 1)) = omega arith in bursting_ends (omega arith) la b (rw k (dues_none m a (replicate (length places - (i + 1)) a) e))
