-- The replies of an honest server are those of its history.
use Rattle.std.proofs.Common.{◌≡◌, refl, sym, ap, ◌∙◌, subst, ℕ, List, [], ◌∷◌, ◌++◌, map, filter, length, Option, Some, None, append_assoc}
use Rattle.std.specs.Prelude.{Bool, flat_map}
use Rattle.std.specs.List.{concat}
use Rattle.fw_acts.specs.Acts.{Row, PlaceTable}
use Rattle.fw_acts.specs.Acts.Row.{Over}
use Rattle.fw_outside.specs.ToldList.{grown}
use Rattle.fw_types.specs.declared.ending.Ending.{Ending}
use Rattle.auth_events.specs.Port.{Port}
use Rattle.auth_events.specs.declared.entry.Entry.{Entry}
use Rattle.auth_events.specs.declared.reply.Reply.{Reply}
use Rattle.auth_events.specs.declared.request.Request.{Request}
use Rattle.authsrv_gate.specs.Dialogue.{rows, session_row}
use Rattle.authsrv_gate.specs.Telling.{ToldInOrder, unheard, words}
use Rattle.authsrv_gate.specs.declared.place.Place.{Place}
use Rattle.authsrv_lines.specs.Reply.{reply_line}
use Rattle.session_acts.specs.Course.{AreOfOne}
use Rattle.session_acts.specs.Deeds.{deed_last, deeds_ran, gives}
use Rattle.session_acts.specs.Hearing.{TakesHeard, heard_in}
use Rattle.session_acts.specs.Laws.{TellsClient, told}
use Rattle.session_acts.specs.Met.{acts}
use Rattle.session_acts.specs.Session.{Held, deeds_of, owed}
use Rattle.session_acts.specs.Talk.{AreAt, Entered, answered as answered_of, asked, is_entered, said_of}
use Rattle.session_acts.specs.World.{Devices, World, at_first, devices_of}
use Rattle.remote_port.specs.Entries.{answered}
use Rattle.remote_port.specs.Remote.{RemoteView}
use Rattle.remote_port.specs.Requests.{written}
use Rattle.remote_port.specs.Texts.{AreLines, RemoteTexts, full_reply}
use Rattle.remote_port.proofs.AnswerLemmas.{OneReply}
use Rattle.auth_remote.specs.HonestServer.{HonestServer}
use Rattle.auth_remote.specs.Same.{AreSame, Same}
use Rattle.auth_remote.proofs.SameLemmas.{AskedAgain, entered_same, last_quiet, session_same, talk_enters}
use Rattle.auth_remote.proofs.ShapeLemmas.{IsTalk, talk_from}

some_is : (x y : List ℕ) → Some x ≡ Some y → x ≡ y
some_is x y e = cc

module _ (Origin : Type 0) where
  -- what the laws of sessions say
  abbrev pub TellsEach : Type 0
  TellsEach = (console : Bool) (old new : World Origin) (ending : Ending) (held : Held rows (session_row console) old new ending) → ToldInOrder held

  abbrev pub TellsClients : Type 0
  TellsClients = (first_rows : PlaceTable (acts Origin) Place) (first : Row (acts Origin) Place) (old new : World Origin) (ending : Ending) (held : Held first_rows first old new ending) → TellsClient (gives told (deeds_of held)) old new

  abbrev pub HearsClients : Type 0
  HearsClients = (first_rows : PlaceTable (acts Origin) Place) (first : Row (acts Origin) Place) (old new : World Origin) (ending : Ending) (held : Held first_rows first old new ending) → old.client.reader.pending ≡ []
      → TakesHeard (gives heard_in (deeds_of held)) old.client new.client

  abbrev pub EntersTalks : Type 0
  EntersTalks = (console : Bool) (old new : World Origin) (ending : Ending) (held : Held rows (session_row console) old new ending) → Entered (gives asked (deeds_of held)) old.office new.office

  abbrev pub AreOneSession : Type 0
  AreOneSession = (console : Bool) (old new : World Origin) (ending : Ending) (held : Held rows (session_row console) old new ending) → old.office.opened ≡ None
      → (entered : Entered (gives asked (deeds_of held)) old.office new.office) → AreOfOne entered.port.places entered.port.entries

  pub same_by : OneReply → AskedAgain → TellsEach → TellsClients → HearsClients → EntersTalks → AreOneSession
      → (p : RemoteView) (texts : RemoteTexts p) (honest : HonestServer Origin texts.given (texts.read ++ texts.ahead)) → Same (answered p.talk.seen) honest.old.port honest.new.port
  same_by one again each tells hears enters of_one p texts honest =
      let old : World Origin = at_first honest.old honest.session.names in
      let new : World Origin = honest.session.last in
      let held : Held rows (session_row honest.console) old new honest.ending = honest.session.held in
      let leaves : devices_of new ≡ honest.new = honest.session.leaves in
      let mine : List Entry = answered p.talk.seen in
      let replies : List Reply = map (λ (e : Entry). e.reply) mine in
      let requests : List Request = map (λ (e : Entry). e.request) mine in
      let in_order = each honest.console old new honest.ending held in
      let said : Some honest.said ≡ Some (gives told (deeds_of held)) =
      sym honest.said_all ∙ sym (ap (λ (d : Devices Origin). d.outlet.given) leaves) ∙ tells rows (session_row honest.console) old new honest.ending held
      ∙ ap (λ (g : Option (List ℕ)). grown g (gives told (deeds_of held))) honest.said_none in
      let told_all : words unheard (deeds_ran held.ran) ≡ texts.read ++ (texts.ahead ++ (honest.says.0 ++ in_order.rest)) =
      in_order.is ∙ ap (λ (t : List ℕ). t ++ in_order.rest) (sym (some_is honest.said (gives told (deeds_of held)) said) ∙ honest.says.1)
      ∙ append_assoc (texts.read ++ texts.ahead) honest.says.0 in_order.rest ∙ append_assoc texts.read texts.ahead (honest.says.0 ++ in_order.rest) in
      let takes = hears rows (session_row honest.console) old new honest.ending held refl in
      let heard : Some honest.heard ≡ Some takes.bytes =
      sym honest.heard_all ∙ sym (ap (λ (d : Devices Origin). d.inlet.taken) leaves) ∙ takes.took ∙ ap (λ (g : Option (List ℕ)). grown g takes.bytes) honest.heard_none in
      let left : List ℕ = new.client.reader.pending ++ (honest.hears.0 ++ texts.cut) in
      let given : concat takes.pieces ++ left ≡ flat_map written (requests ++ texts.more) =
      sym (append_assoc (concat takes.pieces) new.client.reader.pending (honest.hears.0 ++ texts.cut))
      ∙ ap (λ (t : List ℕ). t ++ (honest.hears.0 ++ texts.cut)) (sym takes.all ∙ sym (some_is honest.heard takes.bytes heard))
      ∙ sym (append_assoc honest.heard honest.hears.0 texts.cut) ∙ ap (λ (t : List ℕ). t ++ texts.cut) (sym honest.hears.1) ∙ sym texts.requests in
      let talk : IsTalk mine = talk_from 0 p.talk.seen texts.entries in
      let last = deed_last rows (λ (done : Unit {0}). Over) held.dialogue held.mid held.ran.left held.ran.mid held.ran.comes in
      let same : AreSame (map said_of mine) (answered_of (gives asked (deeds_of held))) =
      session_same Origin one again last (owed held.mid held.answer) (last_quiet held.ran.left held.dialogue held.mid held.ran.mid held.ran.comes) honest.console held.ran.left held.ran.steps held.ran.run mine talk
      (full_reply p.talk.standing) texts.more texts.read (texts.ahead ++ (honest.says.0 ++ in_order.rest)) left takes.pieces texts.replies told_all takes.are_heard given honest.replies in
      let entered = enters honest.console old new honest.ending held in
      let port : new.office.port ≡ honest.new.port = ap (λ (d : Devices Origin). d.port) leaves in
      record {
        places = entered.port.places;
        entries = entered.port.entries;
        own = ap (λ (q : Port Origin). q.mine) (sym port) ∙ entered.port.mine;
        stand = subst (λ (q : Port Origin). AreAt (length honest.old.port.seen) entered.port.places entered.port.entries q.seen) port entered.port.stand;
        one = of_one honest.console old new honest.ending held refl entered;
        same = subst (λ (t : List (Request × Reply)). AreSame (map said_of mine) t) (sym entered.port.said) (entered_same mine (answered_of (gives asked (deeds_of held))) (talk_enters mine talk) same);
      }
