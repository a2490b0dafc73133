use Rattle.std.proofs.Common.{rules, ◌≡◌, ◌∙◌, ap, sym, subst, length, ◌<◌, List, ◌++◌, ◌∷◌, [], Ok, true, ℕ, Option, None}
use Rattle.fw_outside.specs.Counts.{Rose}
use Rattle.auth_events.specs.Port.{session_at}
use Rattle.auth_events.specs.declared.entry.Entry.{Entry}
use Rattle.auth_events.specs.declared.reply.Reply.{Reply}
use Rattle.fw_types.specs.Keyed.{Ascends}
use Rattle.auth_machine.proofs.OrderLemmas.{after_ascends}
use Rattle.auth_machine.proofs.BookLemmas.{asked_with, called_with, kept_with, same_session, stands_lacking, stands_with, step_not_full, step_rose}
use Rattle.auth_machine.specs.Answers.{full_of, is_unkept}
use Rattle.auth_machine.specs.Book.{Asked, BookView, CalledByReply, KeeperAfterReply, Stands, edits_records, refused_after}
use Rattle.auth_machine.specs.MachineState.{state_of}
use Rattle.auth_machine.specs.State.{State, record_name}
use Rattle.auth_machine.specs.Stepping.{Steps}
use Rattle.auth_machine.proofs.book.Book.ask.Goals as goal

-- the records stand in the order of their names
pub step-requires : goal.step-requires
step-requires g c =
    let book : Stands c.self.inside.history.items c.self.inside.limit c.self.inside.refused c.self.inside.asks c.self.inside.origin.value (g.K.Keeper.keeper_view c.self.inside.at_opening.value) (g.K.Keeper.keeper_view c.self.inside.keeper) c.self.inside.policy (state_of c.self.inside.state) = c.self.invariant in
    subst (λ (s : State). Ascends record_name s.records) (sym book.state_is) (after_ascends c.self.inside.origin.value c.self.inside.history.items book.sound.ordered book.legal)

pub invariant_of-self-2 : goal.invariant_of-self-2
invariant_of-self-2 g c =
    let step : Steps c.self.inside.policy c.len-place.result c.session_of-sid.result c.args.at c.args.request c.in_ok-stepped.stepped.reply c.in_ok-stepped.stepped.kept
    (state_of c.self.inside.state) (state_of c.step.new.state) (g.K.Keeper.keeper_view c.self.inside.keeper) (g.K.Keeper.keeper_view c.step.new.keeper) = search rules in
    let place : c.len-place.result ≡ length c.self.inside.history.items = search rules in
    let fits : length c.self.inside.history.items < c.self.inside.limit = search rules in
    let own : session_at c.args.request c.len-place.result c.session_of-sid.result ≡ c.session_of-sid.result =
    ap (session_at c.args.request c.len-place.result) c.session_of-sid.ensures ∙ same_session c.args.request c.len-place.result c.args.sid ∙ sym c.session_of-sid.ensures in
    let items : c.push_reserved.new.self.items ≡ c.self.inside.history.items ++ record { sid = c.session_of-sid.result; at = c.args.at; request = c.args.request; kept = c.in_ok-stepped.stepped.kept; reply = c.in_ok-stepped.stepped.reply } ∷ [] = search rules in
    subst (λ (entries : List Entry). Stands entries c.self.inside.limit c.self.inside.refused c.one_more-self-inside.result c.self.inside.origin.value (g.K.Keeper.keeper_view c.self.inside.at_opening.value) (g.K.Keeper.keeper_view c.step.new.keeper) c.self.inside.policy (state_of c.step.new.state)) (sym items)
    (stands_with c.self.inside.origin.value c.self.inside.history.items c.self.inside.limit c.self.inside.refused c.self.inside.asks c.one_more-self-inside.result (g.K.Keeper.keeper_view c.self.inside.at_opening.value) c.self.inside.policy (state_of c.self.inside.state) (state_of c.step.new.state) c.len-place.result c.session_of-sid.result c.args.at c.args.request
    c.in_ok-stepped.stepped.reply c.in_ok-stepped.stepped.kept (g.K.Keeper.keeper_view c.self.inside.keeper) (g.K.Keeper.keeper_view c.step.new.keeper) c.one_more-self-inside.ensures c.self.invariant place fits own step)

pub invariant_of-self-in_err-stepped : goal.invariant_of-self-in_err-stepped
invariant_of-self-in_err-stepped g c =
    let same : state_of c.step.new.state ≡ state_of c.self.inside.state = c.in_err-stepped.ensures.state in
    let items : c.make_room.new.items.items ≡ c.self.inside.history.items = search rules in
    subst (λ (entries : List Entry). Stands entries c.self.inside.limit c.self.inside.refused c.one_more-self-inside.result c.self.inside.origin.value (g.K.Keeper.keeper_view c.self.inside.at_opening.value) (g.K.Keeper.keeper_view c.step.new.keeper) c.self.inside.policy (state_of c.step.new.state)) (sym items)
    (subst (λ (s : State). Stands c.self.inside.history.items c.self.inside.limit c.self.inside.refused c.one_more-self-inside.result c.self.inside.origin.value (g.K.Keeper.keeper_view c.self.inside.at_opening.value) (g.K.Keeper.keeper_view c.step.new.keeper) c.self.inside.policy s) (sym same)
    (stands_lacking c.self.inside.history.items c.self.inside.limit c.self.inside.refused c.self.inside.asks c.one_more-self-inside.result c.self.inside.origin.value (g.K.Keeper.keeper_view c.self.inside.at_opening.value) c.self.inside.policy (state_of c.self.inside.state) _ (g.K.Keeper.keeper_view c.self.inside.keeper) (g.K.Keeper.keeper_view c.step.new.keeper) c.one_more-self-inside.ensures c.self.invariant c.in_err-stepped.ensures.keeper))

pub returns-clause-asked : goal.returns-clause-asked
returns-clause-asked g c =
    let step : Steps c.self.inside.policy c.len-place.result c.session_of-sid.result c.args.at c.args.request c.in_ok-stepped.stepped.reply c.in_ok-stepped.stepped.kept
    (state_of c.self.inside.state) (state_of c.step.new.state) (g.K.Keeper.keeper_view c.self.inside.keeper) (g.K.Keeper.keeper_view c.step.new.keeper) = search rules in
    let place : c.len-place.result ≡ length c.self.inside.history.items = search rules in
    let fits : length c.self.inside.history.items < c.self.inside.limit = search rules in
    let items : c.push_reserved.new.self.items ≡ c.self.inside.history.items ++ record { sid = c.session_of-sid.result; at = c.args.at; request = c.args.request; kept = c.in_ok-stepped.stepped.kept; reply = c.in_ok-stepped.stepped.reply } ∷ [] = search rules in
    subst (λ (b : BookView). Asked c.args.sid c.args.at c.args.request b.limit b.origin b.history (Ok c.twin-reply.result) c.push_reserved.new.self.items) c.self.view_is
    (subst (λ (r : Reply). Asked c.args.sid c.args.at c.args.request c.self.inside.limit c.self.inside.origin.value c.self.inside.history.items (Ok r) c.push_reserved.new.self.items) (sym c.twin-reply.ensures)
    (subst (λ (entries : List Entry). Asked c.args.sid c.args.at c.args.request c.self.inside.limit c.self.inside.origin.value c.self.inside.history.items (Ok c.in_ok-stepped.stepped.reply) entries) (sym items)
    (asked_with c.self.inside.origin.value c.self.inside.history.items c.self.inside.limit c.self.inside.refused c.self.inside.asks (g.K.Keeper.keeper_view c.self.inside.at_opening.value) c.self.inside.policy (state_of c.self.inside.state) (state_of c.step.new.state) c.len-place.result c.args.sid c.session_of-sid.result c.args.at c.args.request
    c.in_ok-stepped.stepped.reply c.in_ok-stepped.stepped.kept (g.K.Keeper.keeper_view c.self.inside.keeper) (g.K.Keeper.keeper_view c.step.new.keeper) c.self.invariant place fits c.session_of-sid.ensures step)))

pub returns-clause-keeper_follows : goal.returns-clause-keeper_follows
returns-clause-keeper_follows g c =
    let step : Steps c.self.inside.policy c.len-place.result c.session_of-sid.result c.args.at c.args.request c.in_ok-stepped.stepped.reply c.in_ok-stepped.stepped.kept
    (state_of c.self.inside.state) (state_of c.step.new.state) (g.K.Keeper.keeper_view c.self.inside.keeper) (g.K.Keeper.keeper_view c.step.new.keeper) = search rules in
    let place : c.len-place.result ≡ length c.self.inside.history.items = search rules in
    let fits : length c.self.inside.history.items < c.self.inside.limit = search rules in
    let items : c.push_reserved.new.self.items ≡ c.self.inside.history.items ++ record { sid = c.session_of-sid.result; at = c.args.at; request = c.args.request; kept = c.in_ok-stepped.stepped.kept; reply = c.in_ok-stepped.stepped.reply } ∷ [] = search rules in
    subst (λ (b : BookView). KeeperAfterReply (full_of c.twin-reply.result) b.origin b.history c.push_reserved.new.self.items b.keeper (g.K.Keeper.keeper_view c.step.new.keeper)) c.self.view_is
    (subst (λ (r : Reply). KeeperAfterReply (full_of r) c.self.inside.origin.value c.self.inside.history.items c.push_reserved.new.self.items (g.K.Keeper.keeper_view c.self.inside.keeper) (g.K.Keeper.keeper_view c.step.new.keeper)) (sym c.twin-reply.ensures)
    (subst (λ (entries : List Entry). KeeperAfterReply (full_of c.in_ok-stepped.stepped.reply) c.self.inside.origin.value c.self.inside.history.items entries (g.K.Keeper.keeper_view c.self.inside.keeper) (g.K.Keeper.keeper_view c.step.new.keeper)) (sym items)
    (kept_with c.self.inside.origin.value c.self.inside.history.items c.self.inside.limit c.self.inside.refused c.self.inside.asks (g.K.Keeper.keeper_view c.self.inside.at_opening.value) c.self.inside.policy (state_of c.self.inside.state) (state_of c.step.new.state) c.len-place.result c.session_of-sid.result c.args.at c.args.request
    c.in_ok-stepped.stepped.reply c.in_ok-stepped.stepped.kept (g.K.Keeper.keeper_view c.self.inside.keeper) (g.K.Keeper.keeper_view c.step.new.keeper) c.self.invariant place step)))

pub returns-clause-keeper_called : goal.returns-clause-keeper_called
returns-clause-keeper_called g c =
    let step : Steps c.self.inside.policy c.len-place.result c.session_of-sid.result c.args.at c.args.request c.in_ok-stepped.stepped.reply c.in_ok-stepped.stepped.kept
    (state_of c.self.inside.state) (state_of c.step.new.state) (g.K.Keeper.keeper_view c.self.inside.keeper) (g.K.Keeper.keeper_view c.step.new.keeper) = search rules in
    let place : c.len-place.result ≡ length c.self.inside.history.items = search rules in
    subst (λ (b : BookView). CalledByReply (full_of c.twin-reply.result) (edits_records c.args.sid c.args.at c.args.request b.origin b.history) b.keeper (g.K.Keeper.keeper_view c.step.new.keeper)) c.self.view_is
    (subst (λ (r : Reply). CalledByReply (full_of r) (edits_records c.args.sid c.args.at c.args.request c.self.inside.origin.value c.self.inside.history.items) (g.K.Keeper.keeper_view c.self.inside.keeper) (g.K.Keeper.keeper_view c.step.new.keeper)) (sym c.twin-reply.ensures)
    (called_with c.self.inside.origin.value c.self.inside.history.items c.self.inside.limit c.self.inside.refused c.self.inside.asks (g.K.Keeper.keeper_view c.self.inside.at_opening.value) c.self.inside.policy (state_of c.self.inside.state) (state_of c.step.new.state) c.len-place.result c.args.sid c.session_of-sid.result c.args.at c.args.request
    c.in_ok-stepped.stepped.reply c.in_ok-stepped.stepped.kept (g.K.Keeper.keeper_view c.self.inside.keeper) (g.K.Keeper.keeper_view c.step.new.keeper) c.self.invariant place c.session_of-sid.ensures step))

pub returns-clause-keeper_failed : goal.returns-clause-keeper_failed
returns-clause-keeper_failed g c unkept =
    let step : Steps c.self.inside.policy c.len-place.result c.session_of-sid.result c.args.at c.args.request c.in_ok-stepped.stepped.reply c.in_ok-stepped.stepped.kept
    (state_of c.self.inside.state) (state_of c.step.new.state) (g.K.Keeper.keeper_view c.self.inside.keeper) (g.K.Keeper.keeper_view c.step.new.keeper) = search rules in
    let same : is_unkept c.in_ok-stepped.stepped.reply ≡ true = sym (ap is_unkept c.twin-reply.ensures) ∙ unkept in
    subst (λ (b : BookView). Rose b.keeper.faults (g.K.Keeper.keeper_view c.step.new.keeper).faults) c.self.view_is
    (step_rose c.self.inside.policy (state_of c.self.inside.state) (state_of c.step.new.state) c.len-place.result c.session_of-sid.result c.args.at c.args.request
    c.in_ok-stepped.stepped.kept c.in_ok-stepped.stepped.reply (g.K.Keeper.keeper_view c.self.inside.keeper) (g.K.Keeper.keeper_view c.step.new.keeper) step same)

pub returns-clause-refused : goal.returns-clause-refused
returns-clause-refused g c =
    let step : Steps c.self.inside.policy c.len-place.result c.session_of-sid.result c.args.at c.args.request c.in_ok-stepped.stepped.reply c.in_ok-stepped.stepped.kept
    (state_of c.self.inside.state) (state_of c.step.new.state) (g.K.Keeper.keeper_view c.self.inside.keeper) (g.K.Keeper.keeper_view c.step.new.keeper) = search rules in
    let not_full : full_of c.twin-reply.result ≡ None = ap full_of c.twin-reply.ensures
    ∙ step_not_full c.self.inside.policy (state_of c.self.inside.state) c.len-place.result c.session_of-sid.result c.args.at c.args.request c.in_ok-stepped.stepped.kept c.in_ok-stepped.stepped.reply step.reply_is in
    subst (λ (b : BookView). c.self.inside.refused ≡ refused_after (full_of c.twin-reply.result) b.refused) c.self.view_is
    (ap (λ (full : Option ℕ). refused_after full c.self.inside.refused) (sym not_full))
