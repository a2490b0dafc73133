-- What a run of `smapd` comes to, and what it leaves.
use Rattle.std.proofs.Common.{arith, ◌≡◌, refl, sym, ap, subst, ◌∙◌, ℕ, List, [], ◌++◌, length, map, inl, inr, ◌⊎◌, Option, Some, None, Result, Ok, Err}
use Rattle.std.specs.Prelude.{◌≢◌, IfSome}
use Rattle.fw_disk.specs.DiskView.{DiskView}
use Rattle.fw_outside.specs.SinkView.{Gives, SinkView}
use Rattle.fw_outside.specs.declared.failed.Failed as sink
use Rattle.slot_bytes.specs.SlotView.{mail_view}
use Rattle.smapd_queue.specs.Meeting.{last_turn, meeting_with}
use Rattle.smapd_queue.specs.Round.{HandsOnTelling}
use Rattle.smapd_queue.specs.Turns.{Turn, accepted_of}
use Rattle.smapd_queue.specs.declared.round.Round.{Round}
use Rattle.smapd_queue.specs.declared.round.RoundFault.{RoundFault}
use Rattle.smapd_queue.specs.declared.round.RoundFault.TheVariants as faults
use Rattle.smapd_queue.specs.declared.round.Trouble.{Trouble}
use Rattle.smapd_queue.specs.declared.round.Trouble.TheVariants as troubles
use Rattle.spool_rack.specs.Opening.{AreInOrder, CameBack, IsRackFault}
use Rattle.spool_rack.specs.Store.{StoreView}
use Rattle.spool_slots.specs.declared.slot_why.SlotWhy.{SlotWhy}
use Rattle.spool_slots.specs.declared.slot_why.SlotWhy.TheVariants as whys
use Rattle.spool_runs.specs.OnDisks.{RunsSpool}
use Rattle.spool_runs.proofs.RoundLemmas.{round_grows}
use Rattle.spool_runs.proofs.StoreLemmas.{run_over_rack}
use Rattle.bastion.specs.HandedOn.{HandsRound, IsHandedOn, LineIf}
use Rattle.bastion.specs.HandingOn.{HandsMail, RoundHeld, ServesRound, TellsRound, outcome_after, outcome_faulted, outcome_printed}
use Rattle.bastion.specs.Mailing.{OpensRack, slot_fault, with_disks}
use Rattle.bastion.specs.Outcome.{DiskRose, MailersRose, fault_line_of, status_of}
use Rattle.bastion.specs.Run.{TellsIf}
use Rattle.bastion.specs.Spool.{AreOpened, LeavesAside}
use Rattle.bastion.specs.Status.{IsRoundStatus, IsStatusOfJob, RoseInJob}
use Rattle.bastion.specs.WorldView.{Post, SessionInputs, WorldView}
use Rattle.bastion.specs.declared.outcome.Outcome.{Outcome}
use Rattle.bastion.specs.declared.words.Job.TheVariants.{Smapd}
use Rattle.bastion.proofs.HandedRoseLemmas.{IsTroubled, Troubled, round_behind, round_log, round_troubled}
use Rattle.bastion.proofs.LeftLemmas.{Later, tells_later}
use Rattle.bastion.proofs.MailSpoolLemmas.{unread_spool}
use Rattle.bastion.proofs.MailedLemmas.{first_queues, unread_rose}
use Rattle.bastion.proofs.RoseLemmas.{some_later}
use Rattle.bastion.proofs.SpoolLemmas.{stays_aside}
use Rattle.client_service.proofs.SinkLemmas.{cut_rose}

module _ (post : Post) where
  -- ---- step by step

  pub serves_round : (turns : ℕ) (first store : StoreView) (answer : Result Round RoundFault) (trouble : Option Trouble) (disks : List DiskView) (outcome : Outcome) (old mid back new : WorldView)
      → HandsOnTelling turns answer trouble (meeting_with first post.before old.logs) (meeting_with store post.after mid.logs) → mid.inputs ≡ old.inputs → mid.output ≡ old.output → mid.files ≡ old.files
      → IfSome store.queues (λ q. AreInOrder q disks) → back ≡ with_disks disks mid → TellsRound answer trouble outcome back.output new.output → new.inputs ≡ back.inputs → new.logs ≡ back.logs → new.files ≡ back.files → ServesRound post turns first outcome old new
  serves_round turns first store answer trouble disks outcome old mid back new hands inputs output files closed puts tells same_inputs same_logs same_files =
      let now : new.inputs ≡ record (mid.inputs) { disks = disks } = same_inputs ∙ ap (λ (w : WorldView). w.inputs) puts in
      let disks_so : new.inputs.disks ≡ disks = ap (λ (i : SessionInputs). i.disks) now in
      let logs_so : new.logs ≡ mid.logs = same_logs ∙ ap (λ (w : WorldView). w.logs) puts in
      record {
        store = store;
        closed = subst (λ (d : List DiskView). IfSome store.queues (λ q. AreInOrder q d)) (sym disks_so) closed;
        answer = answer;
        trouble = trouble;
        hands = subst (λ (l : SinkView). HandsOnTelling turns answer trouble (meeting_with first post.before old.logs) (meeting_with store post.after l)) (sym logs_so) hands;
        tells = subst (λ (o : SinkView). TellsRound answer trouble outcome o new.output) (ap (λ (w : WorldView). w.output) puts ∙ output) tells;
        inputs_are = now ∙ ap (λ (i : SessionInputs). record i { disks = disks }) inputs ∙ ap (λ (d : List DiskView). record (old.inputs) { disks = d }) (sym disks_so);
        files = same_files ∙ ap (λ (w : WorldView). w.files) puts ∙ files;
      }

  pub round_held : (turns : ℕ) (first : StoreView) (outcome : Outcome) (old mid new : WorldView) → turns ≡ length old.inputs.disks → OpensRack first old mid → ServesRound post turns first outcome mid new → RoundHeld post outcome old new
  round_held turns first outcome old mid new many opens serves =
      let s : ServesRound post turns first outcome (with_disks [] old) new = subst (λ (w : WorldView). ServesRound post turns first outcome w new) opens.is serves in
      record {
        first = first;
        opened = opens.opened;
        store = s.store;
        closed = s.closed;
        answer = s.answer;
        trouble = s.trouble;
        hands = subst (λ (n : ℕ). HandsOnTelling n s.answer s.trouble (meeting_with first post.before old.logs) (meeting_with s.store post.after new.logs)) many s.hands;
        tells = s.tells;
        inputs_are = s.inputs_are;
        files = s.files;
      }

  -- ---- the status

  -- the disks are as they were when the last line is told
  troubled_later : (old mid new : WorldView) (trouble : Option Trouble) → Later mid new → IsTroubled post old mid trouble → IsTroubled post old new trouble
  troubled_later old mid new trouble later h = subst (λ (i : SessionInputs). Troubled old.inputs.disks i.disks (MailersRose post.before post.after) trouble) (sym later.inputs) h

  abbrev ByRound : ℕ → WorldView → WorldView → Type 0
  ByRound status old new = (((status ≡ 4) × RoseInJob post Smapd old new) ⊎ (status ≡ 5)) ⊎ IsRoundStatus status old.inputs.disks new.inputs.disks

  after_status : (trouble : Option Trouble) (other : Outcome) (old new : WorldView) → IsTroubled post old new trouble → ByRound (status_of other) old new → ByRound (status_of (outcome_after trouble other)) old new
  after_status None other old new troubled by = by
  after_status (Some troubles.Mailer) other old new troubled by = inl (inl (refl, inr (inr troubled)))
  after_status (Some (troubles.Disk slot)) other old new troubled by = inl (inl (refl, inr (inl (slot, troubled))))

  printed_by : (printing : Result (Unit {0}) sink.Failed) (text : List ℕ) (old mid new : WorldView) → Later mid new → AreOpened old.inputs.disks → Gives printing text old.output mid.output → ByRound (status_of (outcome_printed printing)) old new
  printed_by (Ok done) text old mid new later opened gives = inr (inr (refl, opened))
  printed_by (Err failed) text old mid new later opened gives = inl (inl (refl, inl (some_later old mid new later (inr (inl (inl (cut_rose text old.output mid.output gives)))))))

  module _ (outcome : Outcome) (old mid new : WorldView) (later : Later mid new) (h : RoundHeld post outcome old mid) where
    faulted_by : (fault : RoundFault) → h.answer ≡ Err fault → ByRound (status_of (outcome_faulted fault)) old new
    faulted_by (faults.NoMemory round) is = inl (inr refl)
    faulted_by (faults.LogFault round) is = inl (inl (refl, inl (some_later old mid new later (inr (inl (inr (round_log post outcome old mid h round is)))))))

    pub troubled_now : IsTroubled post old new h.trouble
    troubled_now = troubled_later old mid new h.trouble later (round_troubled post outcome old mid h)

    tells_by : (answer : Result Round RoundFault) → h.answer ≡ answer → TellsRound answer h.trouble outcome old.output mid.output → ByRound (status_of outcome) old new
    tells_by (Ok round) is tells =
        let opened : AreOpened old.inputs.disks = record { slots = h.opened.slots; opened = h.opened.are } in
        subst (λ (o : Outcome). ByRound (status_of o) old new) (sym tells.is) (after_status h.trouble (outcome_printed tells.printing) old new troubled_now (printed_by tells.printing _ old mid new later opened tells.gives))
    tells_by (Err fault) is tells =
        subst (λ (o : Outcome). ByRound (status_of o) old new) (sym tells.0) (after_status h.trouble (outcome_faulted fault) old new troubled_now (faulted_by fault is))

    round_by : ByRound (status_of outcome) old new
    round_by = tells_by h.answer refl h.tells

  unread_by : (slot : ℕ) (why : SlotWhy) (old mid new : WorldView) → Later mid new → IsRackFault (Unit {0}) old.inputs.disks slot why mid.inputs.disks → ByRound (status_of (slot_fault slot why)) old new
  unread_by slot (whys.BadSlot at) old mid new later (inl none) = let clash : whys.BadSlot at ≡ whys.NoMemory = none.1 in absurd (cc)
  unread_by slot (whys.BadSlot at) old mid new later (inr came) =
      inr (inl (refl, (slot, at, record { came = subst (λ (i : SessionInputs). CameBack (Unit {0}) 0 slot (whys.BadSlot at) old.inputs.disks i.disks) (sym later.inputs) came })))
  unread_by slot whys.DiskFault old mid new later fault =
      inl (inl (refl, inr (inl (slot, subst (λ (i : SessionInputs). DiskRose slot old.inputs.disks i.disks) (sym later.inputs) (unread_rose slot whys.DiskFault old mid fault)))))
  unread_by slot whys.NoMemory old mid new later fault = inl (inr refl)

  pub handed_status : (outcome : Outcome) (old mid new : WorldView) → HandsMail post outcome old mid → Later mid new → IsStatusOfJob post Smapd (status_of outcome) old new
  handed_status outcome old mid new (inl u) later = subst (λ (o : Outcome). ByRound (status_of o) old new) (sym u.0.comes) (unread_by u.0.slot u.0.why old mid new later u.0.fault)
  handed_status outcome old mid new (inr h) later = round_by outcome old mid new later h

  -- ---- what is left

  pub handed_left : (outcome : Outcome) (old new : WorldView) → HandsMail post outcome old new → (new.files ≡ old.files) × (new.inputs.input ≡ old.inputs.input) × (new.inputs.dialer ≡ old.inputs.dialer) × (new.inputs.keeper ≡ old.inputs.keeper) × (new.inputs.remote ≡ old.inputs.remote)
  handed_left outcome old new (inl u) = (ap (λ (w : WorldView). w.files) u.0.is, ap (λ (w : WorldView). w.inputs.input) u.0.is, ap (λ (w : WorldView). w.inputs.dialer) u.0.is, ap (λ (w : WorldView). w.inputs.keeper) u.0.is, ap (λ (w : WorldView). w.inputs.remote) u.0.is)
  handed_left outcome old new (inr h) = (h.files, ap (λ (i : SessionInputs). i.input) h.inputs_are, ap (λ (i : SessionInputs). i.dialer) h.inputs_are, ap (λ (i : SessionInputs). i.keeper) h.inputs_are, ap (λ (i : SessionInputs). i.remote) h.inputs_are)

  pub handed_disks : (outcome : Outcome) (old new : WorldView) → HandsMail post outcome old new → LeavesAside old.inputs.disks new.inputs.disks
  handed_disks outcome old new (inl u) = inl (record { slot = u.0.slot; why = u.0.why; fault = u.0.fault })
  handed_disks outcome old new (inr h) =
      let b = round_behind post outcome old new h in
      inr (record { slots = h.opened.slots; opened = h.opened.are; stay = stays_aside new.inputs.disks h.opened.slots b.q _ b.go.aside b.at; many = b.many })

  -- ---- what was handed on

  pub round_spool : (outcome : Outcome) (old new : WorldView) (h : RoundHeld post outcome old new) → RunsSpool [] (map mail_view (accepted_of (h.hands.hands.turns ++ last_turn h.hands.hands.ending))) old.inputs.disks new.inputs.disks
  round_spool outcome old new h =
      let count : ℕ = length old.inputs.disks in
      run_over_rack [] (map mail_view (accepted_of (h.hands.hands.turns ++ last_turn h.hands.hands.ending))) old.inputs.disks new.inputs.disks h.opened.slots h.first h.store h.opened.are (first_queues old.inputs.disks h.first h.opened)
      (round_grows count count h.answer (meeting_with h.first post.before old.logs) (meeting_with h.store post.after new.logs) h.hands.hands) h.closed

  abbrev pub round_now : (outcome : Outcome) (old new : WorldView) (h : RoundHeld post outcome old new) → HandsRound post h.hands.hands.turns h.answer h.trouble old new
  round_now outcome old new h = record { first = h.first; opened = h.opened; store = h.store; closed = h.closed; logs = new.logs; hands = h.hands; turns_are = refl; spool = round_spool outcome old new h }

  round_later : (outcome : Outcome) (old mid new : WorldView) (h : RoundHeld post outcome old mid) → Later mid new → RunsSpool [] (map mail_view (accepted_of (h.hands.hands.turns ++ last_turn h.hands.hands.ending))) old.inputs.disks new.inputs.disks
  round_later outcome old mid new h later =
      subst (λ (i : SessionInputs). RunsSpool [] (map mail_view (accepted_of (h.hands.hands.turns ++ last_turn h.hands.hands.ending))) old.inputs.disks i.disks) (sym later.inputs) (round_spool outcome old mid h)

  -- the line of a fault
  line_if : (line : Option (List ℕ)) (mid new : WorldView) → TellsIf line mid new → LineIf line mid.logs new.logs
  line_if None mid new tells = ap (λ (w : WorldView). w.logs) tells
  line_if (Some text) mid new tells = (tells.told, tells.logged)

  unread_some : (slot : ℕ) (why : SlotWhy) → status_of (slot_fault slot why) ≢ 0
  unread_some slot (whys.BadSlot at) is = omega (arith, is)
  unread_some slot whys.DiskFault is = omega (arith, is)
  unread_some slot whys.NoMemory is = omega (arith, is)

  abbrev pub handed_turns : (outcome : Outcome) (old new : WorldView) → HandsMail post outcome old new → List Turn
  handed_turns outcome old new (inl u) = []
  handed_turns outcome old new (inr h) = h.hands.hands.turns

  pub handed_on : (outcome : Outcome) (old mid new : WorldView) → (h : HandsMail post outcome old mid) → TellsIf (fault_line_of outcome) mid new → IsHandedOn post (handed_turns outcome old mid h) (status_of outcome) old new
  handed_on outcome old mid new (inl u) tells =
      let later = tells_later (fault_line_of outcome) mid new tells in
      let line : LineIf (fault_line_of outcome) old.logs new.logs = subst (λ (s : SinkView). LineIf (fault_line_of outcome) s new.logs) (ap (λ (w : WorldView). w.logs) u.0.is) (line_if (fault_line_of outcome) mid new tells) in
      inl (record {
        slot = u.0.slot;
        why = u.0.why;
        fault = subst (λ (i : SessionInputs). IsRackFault (Unit {0}) old.inputs.disks u.0.slot u.0.why i.disks) (sym later.inputs) u.0.fault;
        status_is = ap status_of u.0.comes;
        told = subst (λ (o : Outcome). LineIf (fault_line_of o) old.logs new.logs) u.0.comes line;
        mailers = u.1;
        output = later.output ∙ ap (λ (w : WorldView). w.output) u.0.is;
        undone = subst (λ (o : Outcome). status_of o ≢ 0) (sym u.0.comes) (unread_some u.0.slot u.0.why);
        spool = subst (λ (i : SessionInputs). RunsSpool [] [] old.inputs.disks i.disks) (sym later.inputs) (unread_spool outcome old mid u.0);
      })
  handed_on outcome old mid new (inr h) tells =
      let later = tells_later (fault_line_of outcome) mid new tells in
      inr (record {
        answer = h.answer;
        trouble = h.trouble;
        held = record { first = h.first; opened = h.opened; store = h.store; closed = subst (λ (i : SessionInputs). IfSome h.store.queues (λ q. AreInOrder q i.disks)) (sym later.inputs) h.closed; logs = mid.logs; hands = h.hands; turns_are = refl; spool = round_later outcome old mid new h later };
        outcome = outcome;
        status_is = refl;
        printed = subst (λ (s : SinkView). TellsRound h.answer h.trouble outcome old.output s) (sym later.output) h.tells;
        told = line_if (fault_line_of outcome) mid new tells;
      })
