use Rattle.std.proofs.Common.{ap, List, ℕ}
use Rattle.session_acts.proofs.Acting.{did, halted}
use Rattle.smap_gate.specs.declared.place.Place.TheVariants.{Mailing}
use Rattle.smap_gate.proofs.DraftLemmas.{draft_longer}
use Rattle.smap_gate.proofs.RowLemmas.{had_true, tells_at}
use Rattle.smap_gate.proofs.rows.one_more_row.Goals as goal

pub returns-in_err-allot-clause-ran : goal.returns-in_err-allot-clause-ran
returns-in_err-allot-clause-ran g c = halted c.in_err-allot.ensures.acted c.from_residual.ensures.1

pub returns-clause-ran : goal.returns-clause-ran
returns-clause-ran g c = did c.in_ok-allot.ensures.acted (tells_at (ap (λ (r : List (List ℕ)). Mailing c.args.sender r) (c.longer-rcpts.ensures (had_true _ c.in_ok-allot.ensures.lacks))) c.tell_at.ensures.ran)

pub tell_at-requires : goal.tell_at-requires
tell_at-requires g c = rw (c.longer-rcpts.ensures (had_true _ c.in_ok-allot.ensures.lacks)) (draft_longer c.args.script.now c.args.sender c.args.rcpts c.args.path.now c.requires.draft c.requires.room c.requires.fits)
