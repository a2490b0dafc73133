use Rattle.std.proofs.Common.{sym, List, ℕ, subst}
use Rattle.fw_outside.specs.LineReaderView.{TookBytes}
use Rattle.fw_outside.proofs.ListenLemmas.{pulled_none}
use Rattle.otp_words.proofs.gathering.gather.Goals as goal

pub loop-from-init : goal.loop-from-init
loop-from-init g c =
    let P : List ℕ → Type 0 = λ bytes. TookBytes bytes (g.S.Source.source_view c.args.from.now) (g.S.Source.source_view c.args.from.now) in
    subst P (sym c.new-text.ensures) (pulled_none (g.S.Source.source_view c.args.from.now))
