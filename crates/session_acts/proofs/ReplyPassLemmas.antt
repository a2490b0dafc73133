-- A reply that is passed, behind what is kept of it.
use Rattle.std.proofs.Common.{arith, ◌≡◌, ◌≢◌, refl, sym, ap, subst, ◌∙◌, ℕ, ◌+◌, ◌<◌, ◌≤◌, Bool, true, false, List, [], ◌∷◌, ◌++◌, length, Option, Some, None, Result, Ok, Err, append_assoc, append-nil}
use Rattle.fw_outside.specs.Counts.{Rose}
use Rattle.fw_outside.specs.LineReaderView.{LineReaderView, ReadsByte}
use Rattle.fw_outside.specs.SinkView.{Cut, SinkView}
use Rattle.fw_outside.specs.SourceView.{SourceView}
use Rattle.fw_outside.specs.ToldList.{grown}
use Rattle.fw_outside.specs.declared.failed.Failed.{Failed}
use Rattle.fw_outside.specs.declared.heard.Stop.{Stop}
use Rattle.fw_outside.specs.declared.heard.Stop.TheVariants as stops
use Rattle.ftp_lines.specs.Reply.{first_reply}
use Rattle.ftp_lines.specs.ReplyReaderView.{fed_after}
use Rattle.ftp_lines.specs.declared.reply_step.ReplyStep.{ReplyStep}
use Rattle.ftp_lines.specs.declared.reply_step.ReplyStep.TheVariants.{Last}
use Rattle.session_acts.specs.Acts.{Begun, Front, Unreplied}
use Rattle.session_acts.specs.Acts.Unreplied.{NotHeard, NotSaid}
use Rattle.session_acts.specs.Depositing.{Draws}
use Rattle.session_acts.specs.Met.{CutAt, DrawsAnswer, IsTold}
use Rattle.session_acts.specs.ReplyRest.{DropsRest, HearsBy, HearsReply, Keeps, PassesRest, RestReplied, RestSilent, StopsPassing, caused_by, miss_cause, miss_of}
use Rattle.session_acts.specs.Replying.{IsReplied, six_in}
use Rattle.session_acts.specs.World.{Speaker}
use Rattle.session_acts.specs.declared.cause.Cause.{Cause}
use Rattle.session_acts.specs.declared.replied.Replied.{Replied}
use Rattle.session_acts.specs.declared.replied.Replied.TheVariants.{Whole, Ended}
use Rattle.session_acts.specs.declared.replying.Miss.{Miss}
use Rattle.session_acts.specs.declared.replying.Miss.TheVariants.{Silent, Unsaid}
use Rattle.session_acts.specs.declared.reply_use.ReplyUse.{ReplyUse}
use Rattle.session_acts.specs.declared.reply_use.ReplyUse.TheVariants.{Dropped, Passed}
use Rattle.session_acts.specs.declared.silence.Silence.{Silence}
use Rattle.session_acts.specs.declared.silence.Silence.TheVariants.{Quiet, Broken, Limit}
use Rattle.session_acts.proofs.DeviceLemmas.{by_nothing}
use Rattle.session_acts.proofs.LinkedLemmas.{grown_both}
use Rattle.session_acts.proofs.ReadingLemmas.{drawn_end, drawn_last, drawn_stop}
use Rattle.session_acts.proofs.ReplyReadLemmas.{Coming, EndsReply, came_stop, came_whole, coming_more, coming_none}

-- ---- what is kept

-- of what was kept at first and what came since, this was said, and the rest is kept
pub record Passing (first_kept more kept : List ℕ) (old now : SinkView) : Type 0 where
  pub said : List ℕ
  pub split : first_kept ++ more ≡ said ++ kept
  pub is : now ≡ record old { given = grown old.given said }

pub passing_none : (kept : List ℕ) (old : SinkView) → Passing kept [] kept old old
passing_none kept old = record { said = []; split = append-nil kept; is = ap (λ (g : Option (List ℕ)). record old { given = g }) (by_nothing old.given) }

said_more : (old : SinkView) (said more : List ℕ) (mid new : SinkView) → mid ≡ record old { given = grown old.given said } → new ≡ record mid { given = grown mid.given more } → new ≡ record old { given = grown old.given (said ++ more) }
said_more old said more mid new first then_said =
    then_said ∙ ap (λ (s : SinkView). record s { given = grown s.given more }) first ∙ ap (λ (g : Option (List ℕ)). record old { given = g }) (grown_both old.given said more)

split_more : (first_kept more kept said : List ℕ) (byte : ℕ) → first_kept ++ more ≡ said ++ kept → first_kept ++ (more ++ byte ∷ []) ≡ said ++ (kept ++ byte ∷ [])
split_more first_kept more kept said byte split =
    sym (append_assoc first_kept more (byte ∷ [])) ∙ ap (λ (l : List ℕ). l ++ byte ∷ []) split ∙ append_assoc said kept (byte ∷ [])

-- a byte more was kept, and perhaps said
pub passing_more : (first_kept more kept now_kept : List ℕ) (byte : ℕ) (old now new : SinkView) → Passing first_kept more kept old now → Keeps kept byte now_kept now new → Passing first_kept (more ++ byte ∷ []) now_kept old new
passing_more first_kept more kept now_kept byte old now new p k = record {
  said = p.said ++ k.said;
  split = split_more first_kept more kept p.said byte p.split ∙ ap (λ (l : List ℕ). p.said ++ l) k.split ∙ sym (append_assoc p.said k.said now_kept);
  is = said_more old p.said k.said now new p.is k.is;
}

-- all of it was said
all_said : (first_kept more : List ℕ) (client : Speaker) (old now : SinkView) → Passing first_kept more [] old now → IsTold (first_kept ++ more) (Ok tt) (record client { outlet = old }) (record client { outlet = now })
all_said first_kept more client old now p =
    let all : p.said ≡ first_kept ++ more = sym (p.split ∙ append-nil p.said) in
    record { outlet = now; gets = p.is ∙ ap (λ (b : List ℕ). record old { given = grown old.given b }) all; is = refl }

-- a sink that failed within what was to be said next
pub record CutPassing (text : List ℕ) (client : Speaker) (old now : SinkView) : Type 0 where
  pub front : Front text
  pub told : IsTold text (Err front) (record client { outlet = old }) (record client { outlet = now })

cut_front : (text said next : List ℕ) (client : Speaker) (old mid new : SinkView) → text ≡ said ++ next → next ≢ [] → mid ≡ record old { given = grown old.given said } → Cut next mid new → CutPassing text client old new
cut_front text said next client old mid new split some first cut =
    let parts : text ≡ (said ++ cut.part) ++ cut.rest = split ∙ ap (λ (l : List ℕ). said ++ l) cut.cut ∙ sym (append_assoc said cut.part cut.rest) in
    record {
      front = record { part = said ++ cut.part; rest = cut.rest; cut = parts; short = λ any. cut.short some };
      told = record {
        outlet = new;
        gets = record {
          count = cut.count;
          rose = subst (λ (s : SinkView). Rose s.faults cut.count) first cut.rose;
          is = cut.is ∙ ap (λ (s : SinkView). record s { given = grown s.given cut.part; faults = cut.count }) first ∙ ap (λ (g : Option (List ℕ)). record old { given = g; faults = cut.count }) (grown_both old.given said cut.part);
        };
        is = refl;
      };
    }

-- a byte isn't nothing
some_more : (kept : List ℕ) (byte : ℕ) → kept ++ byte ∷ [] ≢ []
some_more [] byte = λ none. cc
some_more (one ∷ kept) byte = λ none. cc

-- ---- what comes of it

-- it came whole
pub passed_whole : (earlier fed first_kept kept now_kept : List ℕ) (byte code : ℕ) (heard : Option (List ℕ)) (old now new : LineReaderView) (first at next : SourceView) (outlet : SinkView) (client : Speaker) (sink_old sink_now sink_new : SinkView)
    → (c : Coming earlier fed old now first at) → Passing first_kept c.more kept sink_old sink_now → ReadsByte (Ok byte) now new at next → length new.pending ≤ 4096 → EndsReply fed byte code heard → Keeps kept byte now_kept sink_now sink_new → (byte ≡ 10 → now_kept ≡ [])
    → PassesRest earlier first_kept (Ok (Whole code (six_in heard))) (record { inlet = first; reader = old; outlet = outlet }) (record { inlet = next; reader = new; outlet = outlet }) (record client { outlet = sink_old }) (record client { outlet = sink_new })
unfolding came_whole
passed_whole earlier fed first_kept kept now_kept byte code heard old now new first at next outlet client sink_old sink_now sink_new c p read near ends k at_end =
    let on = passing_more first_kept c.more kept now_kept byte sink_old sink_now sink_new p k in
    record {
      rest = came_whole earlier fed byte code heard old now new first at next outlet c read near ends;
      told = all_said first_kept (c.more ++ byte ∷ []) client sink_old sink_new (subst (λ (l : List ℕ). Passing first_kept (c.more ++ byte ∷ []) l sink_old sink_new) (at_end ends.lf) on);
    }

-- the client's sink failed at a byte
pub passed_cut : (earlier fed first_kept kept : List ℕ) (byte : ℕ) (old now new : LineReaderView) (first at next : SourceView) (outlet : SinkView) (client : Speaker) (sink_old sink_now sink_new : SinkView)
    → (c : Coming earlier fed old now first at) → Passing first_kept c.more kept sink_old sink_now → ReadsByte (Ok byte) now new at next → length new.pending ≤ 4096 → Cut (kept ++ byte ∷ []) sink_now sink_new
    → PassesRest earlier first_kept (Err Unsaid) (record { inlet = first; reader = old; outlet = outlet }) (record { inlet = next; reader = new; outlet = outlet }) (record client { outlet = sink_old }) (record client { outlet = sink_new })
passed_cut earlier fed first_kept kept byte old now new first at next outlet client sink_old sink_now sink_new c p read near cut =
    let fails = cut_front (first_kept ++ (c.more ++ byte ∷ [])) p.said (kept ++ byte ∷ []) client sink_old sink_now sink_new (split_more first_kept c.more kept p.said byte p.split) (some_more kept byte) p.is cut in
    record {
      more = c.more ++ byte ∷ [];
      of_text = record { front = earlier ++ c.more; last = byte ∷ []; cut = sym (append_assoc earlier c.more (byte ∷ [])); short = omega (arith); unended = c.unended };
      draws = drawn_last c.more byte old now new first at next outlet c.reading read near;
      front = fails.front;
      told = fails.told;
    }

-- the server came to its end, and what was kept was said, or not
ended_said : (earlier fed first_kept kept : List ℕ) (result : Result Replied Miss) (old now new : LineReaderView) (first at next : SourceView) (outlet : SinkView) (client : Speaker) (sink_old sink_now sink_new : SinkView)
    → (c : Coming earlier fed old now first at) → Passing first_kept c.more kept sink_old sink_now → ReadsByte (Err stops.End) now new at next → length new.pending ≤ 4096 → StopsPassing stops.End kept result sink_now sink_new
    → PassesRest earlier first_kept result (record { inlet = first; reader = old; outlet = outlet }) (record { inlet = next; reader = new; outlet = outlet }) (record client { outlet = sink_old }) (record client { outlet = sink_new })
unfolding came_stop
ended_said earlier fed first_kept kept (Ok is_replied) old now new first at next outlet client sink_old sink_now sink_new c p read near h =
    let rest : RestReplied earlier Ended (record { inlet = first; reader = old; outlet = outlet }) (record { inlet = next; reader = new; outlet = outlet }) = came_stop stops.End earlier fed old now new first at next outlet c read near in
    let all : Passing first_kept c.more [] sink_old sink_new = record { said = p.said ++ kept; split = p.split ∙ sym (append-nil (p.said ++ kept)); is = said_more sink_old p.said kept sink_now sink_new p.is h.1 } in
    subst (λ (r : Replied). PassesRest earlier first_kept (Ok r) (record { inlet = first; reader = old; outlet = outlet }) (record { inlet = next; reader = new; outlet = outlet }) (record client { outlet = sink_old }) (record client { outlet = sink_new })) (sym h.0) (record {
      rest = rest;
      told = all_said first_kept c.more client sink_old sink_new all;
    })
ended_said earlier fed first_kept kept (Err (Silent silence)) old now new first at next outlet client sink_old sink_now sink_new c p read near h = absurd h
ended_said earlier fed first_kept kept (Err Unsaid) old now new first at next outlet client sink_old sink_now sink_new c p read near h =
    let fails = cut_front (first_kept ++ c.more) p.said kept client sink_old sink_now sink_new p.split h.0 p.is h.1 in
    record {
      more = c.more;
      of_text = record { front = earlier ++ c.more; last = []; cut = sym (append-nil (earlier ++ c.more)); short = omega (arith); unended = c.unended };
      draws = drawn_end c.more _ _ (drawn_stop stops.End c.more old now new first at next outlet c.reading read near);
      front = fails.front;
      told = fails.told;
    }

-- or it stopped otherwise, and what was kept stays unsaid
begun_by : (earlier first_kept more kept : List ℕ) (silence : Silence) (link new_link client : Speaker) (sink_old sink_new : SinkView) (rest : RestSilent earlier silence link new_link) → rest.more ≡ more → Passing first_kept more kept sink_old sink_new
    → PassesRest earlier first_kept (Err (Silent silence)) link new_link (record client { outlet = sink_old }) (record client { outlet = sink_new })
begun_by earlier first_kept more kept silence link new_link client sink_old sink_new rest same p = record {
  rest = rest;
  begun = record { part = p.said; rest = kept; cut = ap (λ (m : List ℕ). first_kept ++ m) same ∙ p.split };
  told = record { outlet = sink_new; gets = p.is; is = refl };
}

pub passed_stop : (stop : Stop) (earlier fed first_kept kept : List ℕ) (result : Result Replied Miss) (old now new : LineReaderView) (first at next : SourceView) (outlet : SinkView) (client : Speaker) (sink_old sink_now sink_new : SinkView)
    → (c : Coming earlier fed old now first at) → Passing first_kept c.more kept sink_old sink_now → ReadsByte (Err stop) now new at next → length new.pending ≤ 4096 → StopsPassing stop kept result sink_now sink_new
    → PassesRest earlier first_kept result (record { inlet = first; reader = old; outlet = outlet }) (record { inlet = next; reader = new; outlet = outlet }) (record client { outlet = sink_old }) (record client { outlet = sink_new })
unfolding came_stop
passed_stop stops.End earlier fed first_kept kept result old now new first at next outlet client sink_old sink_now sink_new c p read near h =
    ended_said earlier fed first_kept kept result old now new first at next outlet client sink_old sink_now sink_new c p read near h
passed_stop stops.Idle earlier fed first_kept kept result old now new first at next outlet client sink_old sink_now sink_new c p read near h =
    let rest : RestSilent earlier Quiet (record { inlet = first; reader = old; outlet = outlet }) (record { inlet = next; reader = new; outlet = outlet }) = came_stop stops.Idle earlier fed old now new first at next outlet c read near in
    subst (λ (r : Result Replied Miss). PassesRest earlier first_kept r (record { inlet = first; reader = old; outlet = outlet }) (record { inlet = next; reader = new; outlet = outlet }) (record client { outlet = sink_old }) (record client { outlet = sink_new })) (sym h.0) (begun_by earlier first_kept rest.more kept Quiet _ _ client sink_old sink_new rest refl (subst (λ (s : SinkView). Passing first_kept rest.more kept sink_old s) (sym h.1) p))
passed_stop stops.Failed earlier fed first_kept kept result old now new first at next outlet client sink_old sink_now sink_new c p read near h =
    let rest : RestSilent earlier Broken (record { inlet = first; reader = old; outlet = outlet }) (record { inlet = next; reader = new; outlet = outlet }) = came_stop stops.Failed earlier fed old now new first at next outlet c read near in
    subst (λ (r : Result Replied Miss). PassesRest earlier first_kept r (record { inlet = first; reader = old; outlet = outlet }) (record { inlet = next; reader = new; outlet = outlet }) (record client { outlet = sink_old }) (record client { outlet = sink_new })) (sym h.0) (begun_by earlier first_kept rest.more kept Broken _ _ client sink_old sink_new rest refl (subst (λ (s : SinkView). Passing first_kept rest.more kept sink_old s) (sym h.1) p))
passed_stop stops.Spent earlier fed first_kept kept result old now new first at next outlet client sink_old sink_now sink_new c p read near h =
    let rest : RestSilent earlier Limit (record { inlet = first; reader = old; outlet = outlet }) (record { inlet = next; reader = new; outlet = outlet }) = came_stop stops.Spent earlier fed old now new first at next outlet c read near in
    subst (λ (r : Result Replied Miss). PassesRest earlier first_kept r (record { inlet = first; reader = old; outlet = outlet }) (record { inlet = next; reader = new; outlet = outlet }) (record client { outlet = sink_old }) (record client { outlet = sink_new })) (sym h.0) (begun_by earlier first_kept rest.more kept Limit _ _ client sink_old sink_new rest refl (subst (λ (s : SinkView). Passing first_kept rest.more kept sink_old s) (sym h.1) p))

-- ---- whole replies

-- one that is passed from its beginning on
passed_by : (result : Result Replied Miss) (link new_link client new_client : Speaker) → PassesRest [] [] result link new_link client new_client → HearsBy Passed result link new_link client new_client
passed_by (Ok is_replied) link new_link client new_client h = record { text = h.rest.more; is = h.rest.is; draws = h.rest.draws; told = h.told }
passed_by (Err (Silent silence)) link new_link client new_client h = record { text = h.rest.more; none = h.rest.none; draws = h.rest.draws; begun = h.begun; told = h.told }
passed_by (Err Unsaid) link new_link client new_client h = record { text = h.more; of_text = h.of_text; draws = h.draws; front = h.front; told = h.told }

-- nothing is said
pub untold : (client : Speaker) → IsTold [] (Ok tt) client client
untold client = record { outlet = client.outlet; gets = ap (λ (g : Option (List ℕ)). record (client.outlet) { given = g }) (by_nothing client.outlet.given); is = refl }

-- one that is dropped
dropped_by : (result : Result Replied Miss) (link new_link client : Speaker) → DropsRest [] result link new_link → HearsBy Dropped result link new_link client client
dropped_by (Ok is_replied) link new_link client h = record { text = h.more; is = h.is; draws = h.draws; told = untold client }
dropped_by (Err (Silent silence)) link new_link client h = record { text = h.more; none = h.none; draws = h.draws; begun = record { part = []; rest = []; cut = refl }; told = untold client }
dropped_by (Err Unsaid) link new_link client h = absurd h

-- a reader that begins
pub passed_first : (earlier kept : List ℕ) (result : Result Replied Miss) (link new_link client new_client : Speaker) → earlier ≡ [] → kept ≡ [] → PassesRest earlier kept result link new_link client new_client → HearsBy Passed result link new_link client new_client
passed_first earlier kept result link new_link client new_client first none h =
    let here = subst (λ (e : List ℕ). PassesRest e kept result link new_link client new_client) first h in
    passed_by result link new_link client new_client (subst (λ (k : List ℕ). PassesRest [] k result link new_link client new_client) none here)

pub dropped_first : (earlier : List ℕ) (result : Result Replied Miss) (link new_link client : Speaker) → earlier ≡ [] → DropsRest earlier result link new_link → HearsBy Dropped result link new_link client client
dropped_first earlier result link new_link client first h = dropped_by result link new_link client (subst (λ (e : List ℕ). DropsRest e result link new_link) first h)

-- what a session sees of it
pub hears_reply : (how : ReplyUse) (heard : Result Replied Miss) (result : Result Replied Cause) (link new_link client new_client : Speaker) → result ≡ caused_by heard → HearsBy how heard link new_link client new_client → HearsReply how result link new_link client new_client
hears_reply how (Ok is_replied) result link new_link client new_client is h = record { outcome = Ok (is_replied, h.text); is = is; of_text = h.is; draws = h.draws; told = h.told }
hears_reply how (Err (Silent silence)) result link new_link client new_client is h = record { outcome = Err (NotHeard silence h.text h.begun); is = is; of_text = h.none; draws = h.draws; told = h.told }
hears_reply how (Err Unsaid) result link new_link client new_client is h = record { outcome = Err (NotSaid h.text h.front); is = is; of_text = h.of_text; draws = h.draws; told = h.told }

-- ---- while it goes on

-- so much of a reply came that is passed, and goes on
pub record ComingBy (earlier first_kept fed kept : List ℕ) (old now : LineReaderView) (first at : SourceView) (sink_old sink_now : SinkView) : Type 0 where
  pub coming : Coming earlier fed old now first at
  pub passing : Passing first_kept coming.more kept sink_old sink_now
  pub room : length kept < 512

pub coming_first : (earlier kept : List ℕ) (old : LineReaderView) (first : SourceView) (sink : SinkView) → first_reply earlier ≡ None → length kept < 512 → ComingBy earlier kept earlier kept old old first first sink sink
unfolding coming_none
coming_first earlier kept old first sink unended room = record { coming = coming_none earlier old first unended; passing = passing_none kept sink; room = room }

pub coming_next : (earlier first_kept fed now_fed kept now_kept : List ℕ) (byte : ℕ) (step : ReplyStep) (old now new : LineReaderView) (first at next : SourceView) (sink_old sink_now sink_new : SinkView)
    → ComingBy earlier first_kept fed kept old now first at sink_old sink_now → ReadsByte (Ok byte) now new at next → ((code : ℕ) → step ≡ Last code → ⊥) → now_fed ≡ fed_after step (fed ++ byte ∷ []) → first_reply now_fed ≡ None
    → Keeps kept byte now_kept sink_now sink_new → length now_kept < 512 → ComingBy earlier first_kept now_fed now_kept old new first next sink_old sink_new
unfolding coming_more
coming_next earlier first_kept fed now_fed kept now_kept byte step old now new first at next sink_old sink_now sink_new c read other is unended k room = record {
  coming = coming_more earlier fed now_fed byte step old now new first at next c.coming read other is unended;
  passing = passing_more first_kept c.coming.more kept now_kept byte sink_old sink_now sink_new c.passing k;
  room = room;
}
