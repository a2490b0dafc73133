-- A reply that was taken, as an act.
use Rattle.std.proofs.Common.{◌≡◌, refl, sym, ap, subst, ◌∙◌, ℕ, List, [], Option, Some, None, Result, Ok, Err}
use Rattle.session_acts.specs.Acts.{Unreplied, reply_cause}
use Rattle.session_acts.specs.Met.{ClientReplies, IsTold, Replies, ServerReplies}
use Rattle.session_acts.specs.ReplyRest.{OverLink, RepliesSo, reply_result}
use Rattle.session_acts.specs.World.{Server, Speaker, World}
use Rattle.session_acts.specs.declared.cause.Cause.{Cause}
use Rattle.session_acts.specs.declared.replied.Replied.{Replied}
use Rattle.session_acts.specs.declared.replied.Replied.TheVariants.{Ended}
use Rattle.session_acts.specs.declared.reply_use.ReplyUse.{ReplyUse}
use Rattle.session_acts.specs.declared.reply_use.ReplyUse.TheVariants.{Dropped, Greeting, Passed}
use Rattle.session_acts.proofs.GreetingLemmas.{nothing_greets}
use Rattle.session_acts.proofs.ReplyPassLemmas.{untold}

-- the world behind a reply
abbrev pub behind_reply : {Origin : Type 0} → World Origin → Speaker → Option Speaker → World Origin
behind_reply old client link = record old { client = client; server = record (old.server) { link = link } }

-- nothing of a reply that didn't begin is said
none_told : (how : ReplyUse) (client : Speaker) → ClientReplies {how = how} (Ok (Ended, [])) client client
none_told Passed client = untold client
none_told Dropped client = untold client
none_told Greeting client = subst (λ (t : List ℕ). IsTold t (Ok tt) client client) (sym nothing_greets) (untold client)

module _ {Origin : Type 0} where
  -- what it did to both, as an outcome
  reply_met : (how : ReplyUse) (result : Result Replied Cause) (outcome : Result (Replied × List ℕ) (Unreplied how)) (old : World Origin) (client : Speaker) (link : Option Speaker) → result ≡ reply_result outcome
      → ClientReplies outcome old.client client → ServerReplies outcome old.server.link old.server (record (old.server) { link = link }) → Replies how result old (behind_reply old client link)
  reply_met how (Ok is_replied) (Ok answer) old client link is c s =
      subst (λ (r : Result Replied Cause). Replies how r old (behind_reply old client link)) (sym is) (record { text = answer.1; met = record { client = c; logs = refl; office = refl; server = s; store = refl; names = refl; may = tt } })
  reply_met how (Ok is_replied) (Err halt) old client link is c s = absurd (cc)
  reply_met how (Err cause) (Ok answer) old client link is c s = absurd (cc)
  reply_met how (Err cause) (Err halt) old client link is c s =
      subst (λ (r : Result Replied Cause). Replies how r old (behind_reply old client link)) (sym is) (record { halt = halt; is_cause = refl; met = record { client = c; logs = refl; office = refl; server = s; store = refl; names = refl; may = tt } })

  over_link : (how : ReplyUse) (result : Result Replied Cause) (up : Speaker) (old : World Origin) (client : Speaker) (link : Option Speaker) → old.server.link ≡ Some up → OverLink how result up link old.client client → Replies how result old (behind_reply old client link)
  over_link how result up old client link is h =
      reply_met how result h.hears.outcome old client link h.hears.is h.hears.told (subst (λ (l : Option Speaker). ServerReplies h.hears.outcome l old.server (record (old.server) { link = link })) (sym is) (record {
        speaker = h.speaker;
        of_text = h.hears.of_text;
        draws = h.hears.draws;
        is = ap (λ (l : Option Speaker). record (old.server) { link = l }) h.is;
      }))

  pub replies_on : (how : ReplyUse) (result : Result Replied Cause) (up : Option Speaker) (old : World Origin) (client : Speaker) (link : Option Speaker) → old.server.link ≡ up → RepliesSo how result up link old.client client → Replies how result old (behind_reply old client link)
  replies_on how result (Some up) old client link is h = over_link how result up old client link is h
  replies_on how result None old client link is h =
      reply_met how result (Ok (Ended, [])) old client link h.0 (subst (λ (c : Speaker). ClientReplies {how = how} (Ok (Ended, [])) old.client c) (sym h.2) (none_told how old.client)) (subst (λ (l : Option Speaker). ServerReplies {how = how} (Ok (Ended, [])) l old.server (record (old.server) { link = link })) (sym is) (refl, ap (λ (l : Option Speaker). record (old.server) { link = l }) (h.1 ∙ sym is)))
