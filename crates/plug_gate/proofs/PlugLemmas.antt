-- What the dialogue of a plug did, and what a session of it comes to.
use Rattle.std.proofs.Common.{◌≡◌, refl, sym, ap, subst, ◌∙◌, ℕ, List, [], ◌∷◌, ◌++◌, map, ◌⊎◌, inl, inr, Option, Some, None, Result, Ok, Err, append-nil}
use Rattle.std.proofs.lemmas.List.Concat.{flat_map-append}
use Rattle.auth_events.specs.declared.port.PortFault.{PortFault}
use Rattle.auth_events.specs.declared.reply.Reply.{Reply}
use Rattle.fw_acts.specs.Acts.{Row, Step, PlaceTable}
use Rattle.fw_acts.specs.Acts.Row.{Do, Over}
use Rattle.fw_acts.specs.Ran.{Comes, Ran, StopsAt}
use Rattle.fw_acts.specs.Runs as runs
use Rattle.fw_outside.specs.declared.ask.Ask.{Ask}
use Rattle.fw_types.specs.declared.dest.Dest.{Dest}
use Rattle.fw_types.specs.declared.ending.Ending.{Ending}
use Rattle.plug_gate.specs.Dialogue.{plug_row}
use Rattle.plug_gate.specs.Laws.{FailsAtLine, IsRefused, Links, Plugs, Relays, reached_at, refused_at, relayed_to}
use Rattle.session_acts.specs.Acts.{Act, Halt, Outcome, cause_by}
use Rattle.session_acts.specs.Acts.Act.{Log, Reach, Relay}
use Rattle.session_acts.specs.Client.{line_logged}
use Rattle.session_acts.specs.Deeds.{Deed, deed_last, deeds_ran, done, gives}
use Rattle.session_acts.specs.Denying.{no_rows}
use Rattle.session_acts.specs.Laws.{CallsDialer, TellsClient, TellsLog, called, logged, told}
use Rattle.session_acts.specs.Met.{acts}
use Rattle.session_acts.specs.Relayed.{relayed}
use Rattle.session_acts.specs.Relaying.{flow_of, given_down}
use Rattle.session_acts.specs.Session.{Held, closing, deeds_of, ending_of, freeing, owed}
use Rattle.session_acts.specs.World.{Speaker, World}
use Rattle.session_acts.specs.declared.cause.Cause.{Cause}
use Rattle.session_acts.specs.declared.denying.NoPlace.{NoPlace}
use Rattle.session_acts.proofs.DeedLemmas.{all_gain, held_deeds}
use Rattle.session_acts.proofs.LinkedLemmas.{called_gains}
use Rattle.session_acts.proofs.ToldLemmas.{logged_gains, told_gains}

-- the last deed is this act, at which the session stopped
record HaltsAs (act : Act) (cause : Cause) (deeds : List Deed) : Type 0 where
  halt : Halt act
  because : cause ≡ cause_by act halt
  is : deeds ≡ record { act = act; outcome = Err halt } ∷ []

-- what is owed tells nothing, logs nothing and dials nothing
record GivesNone (deeds : List Deed) : Type 0 where
  tells : gives told deeds ≡ []
  logs : gives logged deeds ≡ []
  calls : gives called deeds ≡ []

-- what all deeds give is what those of the dialogue give
with_owed : {A : Type 0} (of : (act : Act) → Outcome act → List A) (deeds these more : List Deed) → deeds ≡ these → gives of more ≡ [] → gives of (deeds ++ more) ≡ gives of these
with_owed {A} of deeds these more are none =
    flat_map-append (λ (d : Deed). of d.act d.outcome) deeds more ∙ ap (λ (z : List A). gives of deeds ++ z) none ∙ append-nil (gives of deeds) ∙ ap (λ (d : List Deed). gives of d) are

owes_none : (link : Option Speaker) (opened : Option ℕ) (answer : Result Reply PortFault) → GivesNone (freeing link ++ closing opened answer)
owes_none None None answer = record { tells = refl; logs = refl; calls = refl }
owes_none None (Some sid) answer = record { tells = refl; logs = refl; calls = refl }
owes_none (Some up) None answer = record { tells = refl; logs = refl; calls = refl }
owes_none (Some up) (Some sid) answer = record { tells = refl; logs = refl; calls = refl }

module _ {Origin : Type 0} where
  abbrev table : PlaceTable (acts Origin) NoPlace
  table = relayed no_rows

  abbrev over : Unit {0} → Row (acts Origin) NoPlace
  over done = Over

  -- ---- the deeds

  halts_as : (act : Act) (go : (acts Origin).Answer act → Row (acts Origin) NoPlace) (left : Row (acts Origin) NoPlace) (cause : Cause) (before mid : World Origin) → Do act go ≡ left → (comes : StopsAt table left cause before mid)
      → HaltsAs act cause (deed_last table over (Err cause) mid left before comes)
  halts_as act go left cause before mid is comes =
      let Halts : Row (acts Origin) NoPlace → Type 0 = λ r. (c : StopsAt table r cause before mid) → HaltsAs act cause (deed_last table over (Err cause) mid r before c) in
      subst Halts is (λ c. record { halt = c.halt; because = c.is_cause; is = refl }) comes

  -- a row that is not over isn't at its end
  not_over : {A : Type 0} (act : Act) (go : (acts Origin).Answer act → Row (acts Origin) NoPlace) (left : Row (acts Origin) NoPlace) → Do act go ≡ left → left ≡ Over → A
  not_over act go left is end = let clash : Do act go ≡ Over = is ∙ end in absurd (cc)

  over_stops : {A : Type 0} (left : Row (acts Origin) NoPlace) (cause : Cause) (before mid : World Origin) → Over ≡ left → StopsAt table left cause before mid → A
  over_stops left cause before mid is stops = absurd (subst (λ (r : Row (acts Origin) NoPlace). StopsAt table r cause before mid) (sym is) stops)

  plugs : (line : List ℕ) (dest : Dest) (steps : List (Step (acts Origin))) (left : Row (acts Origin) NoPlace) (before mid : World Origin) (dialogue : Result (Unit {0}) Cause) → runs.Run table (plug_row line dest) steps left
      → (comes : Comes table over dialogue mid left before) → Plugs line dest dialogue (map done steps ++ deed_last table over dialogue mid left before comes)
  plugs line dest [] left before mid (Ok end) run comes = not_over (Log line) _ left run comes.0
  plugs line dest [] left before mid (Err cause) run comes = let h = halts_as (Log line) _ left cause before mid run comes in inl (record { front = h.halt; stops = ap (λ (z : Cause). Err z) h.because; are = h.is })
  plugs line dest (a ∷ []) left before mid (Ok end) run comes = not_over (Reach dest) _ left run.2 comes.0
  plugs line dest (a ∷ []) left before mid (Err cause) run comes =
      let h = halts_as (Reach dest) _ left cause before mid run.2 comes in
      inr (inl (record {
        stops = ap (λ (z : Cause). Err z) h.because;
        are = ap (λ (d : List Deed). done a ∷ d) h.is ∙ ap (λ (s : Step (acts Origin)). done s ∷ refused_at dest ∷ []) run.1;
      }))
  plugs line dest (a ∷ b ∷ []) left before mid (Ok end) run comes = not_over Relay _ left run.2.2 comes.0
  plugs line dest (a ∷ b ∷ []) left before mid (Err cause) run comes =
      let h = halts_as Relay _ left cause before mid run.2.2 comes in
      inr (inr (record {
        outcome = Err h.halt;
        are =
            ap (λ (d : List Deed). done a ∷ done b ∷ d) h.is ∙ ap (λ (s : Step (acts Origin)). done s ∷ done b ∷ relayed_to (Err h.halt) ∷ []) run.1
            ∙ ap (λ (s : Step (acts Origin)). line_logged line ∷ done s ∷ relayed_to (Err h.halt) ∷ []) run.2.1;
      }))
  plugs line dest (a ∷ b ∷ c ∷ []) left before mid (Ok end) run comes = inr (inr (record {
    outcome = Ok run.2.2.0;
    are =
        ap (λ (s : Step (acts Origin)). done s ∷ done b ∷ done c ∷ []) run.1 ∙ ap (λ (s : Step (acts Origin)). line_logged line ∷ done s ∷ done c ∷ []) run.2.1
        ∙ ap (λ (s : Step (acts Origin)). line_logged line ∷ reached_at dest ∷ done s ∷ []) run.2.2.1;
  }))
  plugs line dest (a ∷ b ∷ c ∷ []) left before mid (Err cause) run comes = over_stops left cause before mid run.2.2.2 comes
  plugs line dest (a ∷ b ∷ c ∷ d ∷ steps) left before mid dialogue run comes = absurd run.2.2.2

  pub held_plugs : (line : List ℕ) (dest : Dest) (old new : World Origin) (ending : Ending) (held : Held (relayed no_rows) (plug_row line dest) old new ending) → Plugs line dest held.dialogue (deeds_ran held.ran)
  held_plugs line dest old new ending held = plugs line dest held.ran.steps held.ran.left held.ran.mid held.mid held.dialogue held.ran.run held.ran.comes

  -- ---- what they come to

  -- the devices after deeds that come to these
  record ComesTo (these : List Deed) (old new : World Origin) : Type 0 where
    log : TellsLog (gives logged these) old new
    dialer : CallsDialer (gives called these) old new
    client : TellsClient (gives told these) old new

  comes_to : (line : List ℕ) (dest : Dest) (old new : World Origin) (ending : Ending) (these : List Deed) (held : Held (relayed no_rows) (plug_row line dest) old new ending) → deeds_ran held.ran ≡ these → ComesTo these old new
  comes_to line dest old new ending these held are =
      let none = owes_none held.mid.server.link held.mid.office.opened held.answer in
      let deeds = held_deeds held in
      record {
        log = subst (λ (b : List ℕ). TellsLog b old new) (with_owed logged (deeds_ran held.ran) these (owed held.mid held.answer) are none.logs) (all_gain logged_gains (deeds_of held) old new deeds);
        dialer = subst (λ (b : List Ask). CallsDialer b old new) (with_owed called (deeds_ran held.ran) these (owed held.mid held.answer) are none.calls) (all_gain called_gains (deeds_of held) old new deeds);
        client = subst (λ (b : List ℕ). TellsClient b old new) (with_owed told (deeds_ran held.ran) these (owed held.mid held.answer) are none.tells) (all_gain told_gains (deeds_of held) old new deeds);
      }

  -- a list with nothing behind it
  logs_alone : (bytes : List ℕ) (old new : World Origin) → TellsLog (bytes ++ []) old new → TellsLog bytes old new
  logs_alone bytes old new h = subst (λ (b : List ℕ). TellsLog b old new) (append-nil bytes) h

  told_alone : (bytes : List ℕ) (old new : World Origin) → TellsClient (bytes ++ []) old new → TellsClient bytes old new
  told_alone bytes old new h = subst (λ (b : List ℕ). TellsClient b old new) (append-nil bytes) h

  links_by : (line : List ℕ) (dest : Dest) (old new : World Origin) (ending : Ending) (held : Held (relayed no_rows) (plug_row line dest) old new ending) → Plugs line dest held.dialogue (deeds_ran held.ran) → Links line dest old new ending
  links_by line dest old new ending held (inl fails) = let so = comes_to line dest old new ending _ held fails.are in inl (record { ends = held.ends ∙ ap (λ (d : Result (Unit {0}) Cause). ending_of d held.mid.office.opened held.answer) fails.stops; front = fails.front; logs = logs_alone fails.front.part old new so.log; asked = so.dialer; told = so.client })
  links_by line dest old new ending held (inr (inl refused)) = let so = comes_to line dest old new ending _ held refused.are in inr (inl (record { ends = held.ends ∙ ap (λ (d : Result (Unit {0}) Cause). ending_of d held.mid.office.opened held.answer) refused.stops; logs = logs_alone line old new so.log; asked = so.dialer; told = so.client }))
  links_by line dest old new ending held (inr (inr relays)) = let so = comes_to line dest old new ending _ held relays.are in inr (inr (relays.outcome, record { logs = logs_alone line old new so.log; asked = so.dialer; told = told_alone (given_down (flow_of relays.outcome)) old new so.client }))

  pub held_links : (line : List ℕ) (dest : Dest) (old new : World Origin) (ending : Ending) → Held (relayed no_rows) (plug_row line dest) old new ending → Links line dest old new ending
  held_links line dest old new ending held = links_by line dest old new ending held (held_plugs line dest old new ending held)
