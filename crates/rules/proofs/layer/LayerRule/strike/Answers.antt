use Rattle.std.proofs.Common.{◌≡◌, Some, ap, ◌∙◌, subst, arith, rules}
use Rattle.std.proofs.lemmas.Bool.Decides.{nat_tests}
use Rattle.rules.specs.Layers.{layered, Next}
use Rattle.rules.proofs.layer.LayerRule.strike.Goals as goal

pub returns : goal.returns
returns g c =
    let l = c.args.self.now in
    let taken = c.in_ok-strike.ensures in
    let some : c.after.result ≡ Some c.in_ok-charged.charged = (let a = c.in_ok-charged.ensures in let b = c.in_ok-charged.is in search rules) in
    let next : Next g.T.Tally.own g.T.Tally.span l.tally c.args.t (Some c.in_ok-charged.charged) = subst (Next g.T.Tally.own g.T.Tally.span l.tally c.args.t) some c.after.ensures in
    record {
      answer = let a = taken.answer in let b = next.0 in grind (arith, nat_tests);
      left = ap (layered (g.T.Tally.own c.in_ok-charged.charged)) taken.left ∙ next.1 (g.R.Rule.meaning l.below);
      same_reach = let a = next.2 in let b = taken.same_reach in cc;
    }
