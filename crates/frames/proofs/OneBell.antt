-- One bell's own run: what it answers and holds depends only on the calls that name it.
use Rattle.std.proofs.Common.{◌≡◌, ℕ, zero, suc, List, [], ◌∷◌, take as first, Option, refl, ap, ◌∙◌, arith}
use Rattle.std.proofs.lemmas.Bool.Decides.{nat_tests}
use Rattle.frames.specs.Bells.{Bell, Bells, Answer, answer_of, left_of, left, answers, leaves}
use Rattle.frames.specs.Runs.{dialogue, asked_of}
use Rattle.frames.specs.declared.call.Action.{Action}
use Rattle.frames.specs.declared.call.Call.{Call}

abbrev pub ran : Option Bell → List Action → List (Action × Answer)
ran o [] = []
ran o (x ∷ xs) = (x, answer_of o x) ∷ ran (left_of o x) xs

abbrev pub kept : Option Bell → List Action → Option Bell
kept o [] = o
kept o (x ∷ xs) = kept (left_of o x) xs

pub dialogue_is : (f : Bells) (n : ℕ) (cs : List Call) → dialogue n cs (answers f cs) ≡ ran (f n) (asked_of n cs)
dialogue_is f n [] = refl
dialogue_is f n (c ∷ cs) = let h = dialogue_is (left f c.bell c.action) n cs in grind (arith, nat_tests)

pub leaves_is : (f : Bells) (n : ℕ) (cs : List Call) → leaves f cs n ≡ kept (f n) (asked_of n cs)
leaves_is f n [] = refl
leaves_is f n (c ∷ cs) = let h = leaves_is (left f c.bell c.action) n cs in grind (arith, nat_tests)

-- the answers to the first k calls are the first k answers
first_answers : (k : ℕ) (f : Bells) (cs : List Call) → first k (answers f cs) ≡ answers f (first k cs)
first_answers zero f cs = refl
first_answers (suc k) f [] = refl
first_answers (suc k) f (c ∷ cs) = let h = first_answers k (left f c.bell c.action) cs in grind arith

-- so what a bell was asked and answered in the first k calls is its own run
pub first_run : (k n : ℕ) (f : Bells) (cs : List Call) → dialogue n (first k cs) (first k (answers f cs)) ≡ ran (f n) (asked_of n (first k cs))
first_run k n f cs = ap (dialogue n (first k cs)) (first_answers k f cs) ∙ dialogue_is f n (first k cs)
