-- A login that is needed stands in the history of the port, for the number that the session's opening was given.
use Rattle.std.proofs.Common.{◌≡◌, refl, sym, ap, ◌∙◌, ℕ, Bool, true, List, [], ◌∷◌, ◌++◌, length, Option, Some, None}
use Rattle.auth_events.specs.Login.{login_in}
use Rattle.auth_events.specs.Port.{places}
use Rattle.fw_types.specs.declared.ending.Ending.{Ending}
use Rattle.session_acts.specs.Acts.{Act}
use Rattle.session_acts.specs.Acts.Act.{Dial, Pass}
use Rattle.session_acts.specs.Deeds.{Deed, gives}
use Rattle.session_acts.specs.OwnLogin.{LoginStandsIn, number_opened}
use Rattle.session_acts.specs.Session.{Held, deeds_of}
use Rattle.session_acts.specs.Talk.{Entered, answered, asked}
use Rattle.session_acts.specs.World.{World}
use Rattle.session_acts.proofs.OwnLoginLemmas as own
use Rattle.ftp_gate.specs.Dialogue.{ftp_row, ftp_rows}
use Rattle.ftp_gate.specs.Gate.{Gate, asks_login}
use Rattle.ftp_gate.specs.Known.{Known, known}
use Rattle.ftp_gate.specs.Laws.{IsOutward, IsRight, IsUnblocked, NeedsLogin}
use Rattle.ftp_gate.specs.Order.{Order}
use Rattle.ftp_gate.proofs.CourseLemmas.{held_once}
use Rattle.ftp_gate.proofs.KnownLemmas.{login_known}
use Rattle.ftp_gate.proofs.LawLemmas.{held_right}

some_same : (one other : Order) → Some one ≡ Some other → one ≡ other
some_same one other same = cc

same_order : (one other : Order) (order : Option Order) → order ≡ Some one → order ≡ Some other → one ≡ other
same_order one other order is so = some_same one other (sym is ∙ so)

needed : (gate : Gate) (k : Known) (order : Order) → IsUnblocked gate order k → NeedsLogin gate k → k.login ≡ true
needed gate k order unblocked needs =
    unblocked.login (ap (λ (o : Order). asks_login gate.options o.verb) (same_order order needs.order k.order unblocked.heard needs.heard) ∙ needs.asks)

stands_by : (gate : Gate) (k : Known) (act : Act) → IsOutward act → IsRight gate k act → NeedsLogin gate k → k.login ≡ true
stands_by gate k (Dial dest) is right needs = needed gate k right.order right.unblocked needs
stands_by gate k (Pass text) is right needs = needed gate k right.order right.unblocked needs
stands_by gate k act is right needs = absurd is

module _ {Origin : Type 0} (gate : Gate) (old new : World Origin) (ending : Ending) (held : Held (ftp_rows gate) ftp_row old new ending) where
  stands : (before after : List Deed) (deed : Deed) → deeds_of held ≡ before ++ deed ∷ after → IsOutward deed.act → NeedsLogin gate (known gate before) → login_in (answered (gives asked before)) ≡ true
  stands before after deed is outward needs =
      sym (login_known gate before) ∙ stands_by gate (known gate before) deed.act outward (held_right gate old new ending held before after deed is) needs

  -- in what the session entered
  pub held_login : old.office.opened ≡ None → (entered : Entered (gives asked (deeds_of held)) old.office new.office) → (before after : List Deed) (deed : Deed) → deeds_of held ≡ before ++ deed ∷ after → IsOutward deed.act
      → NeedsLogin gate (known gate before) → LoginStandsIn (number_opened (gives asked (deeds_of held))) (gives asked before) entered.port.entries
  held_login none entered before after deed is outward needs =
      own.held_login (ftp_rows gate) ftp_row old new ending held (held_once gate old new ending held none) none entered before (deed ∷ after) is (stands before after deed is outward needs)

  -- where the port's own entries are the whole history
  pub whole_login : old.office.opened ≡ None → old.office.port.mine ≡ [] → new.office.port.mine ≡ places (length new.office.port.seen) → (before after : List Deed) (deed : Deed) → deeds_of held ≡ before ++ deed ∷ after
      → IsOutward deed.act → NeedsLogin gate (known gate before) → LoginStandsIn (number_opened (gives asked (deeds_of held))) (gives asked before) new.office.port.seen
  whole_login none empty all before after deed is outward needs =
      own.whole_login (ftp_rows gate) ftp_row old new ending held (held_once gate old new ending held none) none empty all before (deed ∷ after) is (stands before after deed is outward needs)
