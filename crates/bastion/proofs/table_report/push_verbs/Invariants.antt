use Rattle.std.proofs.Common.{◌≡◌, ◌++◌, ◌∷◌, take}
use Rattle.std.specs.Prelude.{flat_map}
use Rattle.bastion.proofs.table_report.push_verbs.Given as goal

abbrev pub invariant-loop-verb : goal.invariant-loop-verb
invariant-loop-verb l = l.out.items ≡ l.fn.out.items ++ flat_map (λ w. 32 ∷ w) (take l.verb-index l.verbs)
