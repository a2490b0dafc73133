use Rattle.fwtk_serve.proofs.ServingLemmas.{bare_is, own_bare}
use Rattle.fwtk_serve.proofs.serving.serve_book.Goals as goal

pub serve_over-requires-clause-passes : goal.serve_over-requires-clause-passes
serve_over-requires-clause-passes g c κs within = own_bare _ _ _ c.in-Ok.ensures.given c.requires.mail

pub serve_over-requires-clause-mail : goal.serve_over-requires-clause-mail
serve_over-requires-clause-mail g c κs within = bare_is _ _ c.requires.mail
