use mathlib.Core.Path.{◌≡◌, subst}
use denote.Param.Members.{Called}
use borrow.Author.Rules.{rules}
use Rattle.fwtk_serve.proofs.beside.run_beside.Goals as goal

pub returns-clause-here : goal.returns-clause-here
returns-clause-here g c =
    let r = c.run_both-other.result in
    let back : r.1.0.now ≡ c.here-1.given.0 = search rules in
    subst (Called g.F.FnMut c.args.here.now tt r.1.1) back c.run_both-other.ensures.1.1
