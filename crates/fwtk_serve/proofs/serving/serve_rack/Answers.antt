use Rattle.fwtk_serve.proofs.ServingLemmas.{hands_for, ok_so, settles_for}
use Rattle.fwtk_serve.proofs.serving.serve_rack.Goals as goal

pub returns-in-Ok-clause-hands : goal.returns-in-Ok-clause-hands
returns-in-Ok-clause-hands g c =
    ok_so c.serve_book.result c.serve_book.ensures.hands (λ report h. hands_for _ _ c.room.result c.turns_for-each.result _ _ _ _ _ _ _ c.in-Ok.ensures.pass c.room.ensures c.turns_for-each.ensures h)

pub returns-in-Ok-clause-settles : goal.returns-in-Ok-clause-settles
returns-in-Ok-clause-settles g c = ok_so c.serve_book.result c.serve_book.ensures.settles (λ report h. settles_for _ _ _ _ c.in-Ok.ensures.pass h)
