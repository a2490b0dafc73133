-- What came of a greeting.
use Rattle.std.proofs.Common.{arith, ◌≡◌, ◌≢◌, refl, sym, ap, subst, ◌∙◌, ℕ, ◌+◌, ◌<◌, ◌≤◌, Bool, true, false, List, [], ◌∷◌, ◌++◌, length, Option, Some, None, Result, Ok, Err, append_assoc, append-nil}
use Rattle.std.specs.Prelude.{◌==◌, if◌then◌else◌}
use Rattle.std.proofs.lemmas.Bool.{eqb-true}
use Rattle.std.proofs.lemmas.List.{length-append}
use Rattle.ftp_lines.specs.Reply.{first_reply}
use Rattle.ftp_lines.proofs.ReplyLemmas.{first_reply-empty}
use Rattle.ftp_lines.specs.ReplyReaderView.{fed_after, step_of}
use Rattle.ftp_lines.specs.declared.reply_step.ReplyStep.{ReplyStep}
use Rattle.ftp_lines.specs.declared.reply_step.ReplyStep.TheVariants.{Last, Line, More}
use Rattle.fw_outside.specs.LineReaderView.{LineReaderView, ReadsByte, rest_of}
use Rattle.fw_outside.specs.SinkView.{Cut, SinkView}
use Rattle.fw_outside.specs.SourceView.{SourceView}
use Rattle.fw_outside.specs.ToldList.{grown, preceded}
use Rattle.fw_outside.specs.declared.heard.Stop.{Stop}
use Rattle.fw_outside.specs.declared.heard.Stop.TheVariants as stops
use Rattle.fw_outside.proofs.ListenLemmas.{reads_both, rest_is}
use Rattle.session_acts.specs.Acts.{Begun, Front}
use Rattle.session_acts.specs.Depositing.{Draws, data_stop_at_limit}
use Rattle.session_acts.specs.Greeting.{GivesHead, PassesBy, code_told, head_after}
use Rattle.session_acts.specs.Met.{DrawsAnswer, IsTold, stop_of}
use Rattle.session_acts.specs.ReplyRest.{DropsRest, HearsBy, PassesRest, RestReplied, RestSilent, miss_of}
use Rattle.session_acts.specs.Replying.{IsReplied, greeting_said, is_welcome, said_of, six_in, unless_welcome}
use Rattle.session_acts.specs.World.{Speaker}
use Rattle.session_acts.specs.declared.replied.Replied.{Replied}
use Rattle.session_acts.specs.declared.replied.Replied.TheVariants.{Whole, Ended}
use Rattle.session_acts.specs.declared.replying.Miss.{Miss}
use Rattle.session_acts.specs.declared.replying.Miss.TheVariants.{Silent, Unsaid}
use Rattle.session_acts.specs.declared.reply_use.ReplyUse.TheVariants.{Greeting}
use Rattle.session_acts.specs.declared.silence.Silence.{Silence}
use Rattle.session_acts.specs.declared.silence.Silence.TheVariants.{Quiet, Broken, Limit}
use Rattle.session_acts.proofs.GreetingLemmas.{Heading, ToldAt, heading_line, heading_more, heading_none, none_said, told_at, told_last}
use Rattle.session_acts.proofs.ReadingLemmas.{Reading, drawn_last, drawn_stop, reading_more, reading_none}
use Rattle.session_acts.proofs.ReplyPassLemmas.{untold}
use Rattle.session_acts.proofs.ReplyReadLemmas.{EndsReply}

-- ---- what was read, and then drawn

preceded_both : (first more : List ℕ) (rest : Option (List ℕ)) → preceded first (preceded more rest) ≡ preceded (first ++ more) rest
preceded_both first more None = refl
preceded_both first more (Some rest) = ap (λ (l : List ℕ). Some l) (sym (append_assoc first more rest))

behind_both : (text more : List ℕ) (old now : LineReaderView) (first at : SourceView) → Reading text old now first at → length now.pending ≤ length more → length old.pending ≤ length (text ++ more)
behind_both text more old now first at r few =
    let left = length-append old.pending r.reads.taken_now in
    let right = length-append text now.pending in
    let same : length (old.pending ++ r.reads.taken_now) ≡ length (text ++ now.pending) = ap length r.reads.reader in
    let all = length-append text more in
    omega (arith, left, right, same, all, few)

drawn_on : (stop : Option Stop) (text more : List ℕ) (old now : LineReaderView) (first at : SourceView) (outlet : SinkView) (new : Speaker) → Reading text old now first at → Draws stop more (record { inlet = at; reader = now; outlet = outlet }) new
    → Draws stop (text ++ more) (record { inlet = first; reader = old; outlet = outlet }) new
drawn_on stop text more old now first at outlet new r d = record {
  inlet = d.inlet;
  reader = d.reader;
  middle = d.middle;
  rest = rest_is text old now first at r.reads ∙ ap (preceded text) d.rest ∙ preceded_both text more (rest_of d.reader d.inlet);
  reads = reads_both text more old now d.reader first at d.middle r.reads d.reads;
  closes = d.closes;
  spent = d.spent;
  behind = λ was room. behind_both text more old now first at r (d.behind was (r.more room));
  near = d.near;
  is = d.is;
}

answer_on : (is_replied : Replied) (text more : List ℕ) (old now : LineReaderView) (first at : SourceView) (outlet : SinkView) (new : Speaker) → Reading text old now first at → DrawsAnswer is_replied more (record { inlet = at; reader = now; outlet = outlet }) new
    → DrawsAnswer is_replied (text ++ more) (record { inlet = first; reader = old; outlet = outlet }) new
answer_on (Whole code six) text more old now first at outlet new r d = drawn_on None text more old now first at outlet new r d
answer_on Ended text more old now first at outlet new r d = drawn_on (Some stops.End) text more old now first at outlet new r d

-- ---- a code is told

welcome_none : (code : ℕ) (text : List ℕ) → is_welcome code ≡ true → unless_welcome code text ≡ []
welcome_none code text is = welcome_by (is_welcome code) text is
  where
    welcome_by : (b : Bool) (text : List ℕ) → b ≡ true → (if b then [] else text) ≡ []
    welcome_by true text is = refl
    welcome_by false text is = absurd (cc)

other_all : (code : ℕ) (text : List ℕ) → is_welcome code ≡ false → unless_welcome code text ≡ text
other_all code text is = other_by (is_welcome code) text is
  where
    other_by : (b : Bool) (text : List ℕ) → b ≡ false → (if b then [] else text) ≡ text
    other_by true text is = absurd (cc)
    other_by false text is = refl

told_so : (text said : List ℕ) (client new : Speaker) → greeting_said text ≡ said → IsTold said (Ok tt) client new → IsTold (greeting_said text) (Ok tt) client new
told_so text said client new is told = subst (λ (t : List ℕ). IsTold t (Ok tt) client new) (sym is) told

-- a text of which a front was said
record UnsaidSo (text : List ℕ) (client new : Speaker) : Type 0 where
  front : Front text
  told : IsTold text (Err front) client new

unsaid_as : (text other : List ℕ) (client new : Speaker) → text ≡ other → UnsaidSo text client new → UnsaidSo other client new
unsaid_as text other client new same cut = subst (λ (t : List ℕ). UnsaidSo t client new) same cut

module _ (fed head : List ℕ) (byte code : ℕ) (t : ToldAt fed head byte code) (old now : LineReaderView) (first at : SourceView) (outlet : SinkView) (r : Reading (fed ++ byte ∷ []) old now first at) where
  abbrev pub start : Speaker
  start = record { inlet = first; reader = old; outlet = outlet }

  -- a welcome is dropped
  drops_said : (more : List ℕ) → is_welcome code ≡ true → greeting_said ((fed ++ byte ∷ []) ++ more) ≡ []
  drops_said more is = t.said more ∙ welcome_none code (t.kept ++ more) is

  drops_greeting : (result : Result Replied Miss) (new client : Speaker) → is_welcome code ≡ true → DropsRest (fed ++ byte ∷ []) result (record { inlet = at; reader = now; outlet = outlet }) new → HearsBy Greeting result start new client client
  drops_greeting (Ok is_replied) new client is h = record {
    text = (fed ++ byte ∷ []) ++ h.more;
    is = h.is;
    draws = answer_on is_replied (fed ++ byte ∷ []) h.more old now first at outlet new r h.draws;
    told = told_so ((fed ++ byte ∷ []) ++ h.more) [] client client (drops_said h.more is) (untold client);
  }
  drops_greeting (Err (Silent silence)) new client is h = record {
    text = (fed ++ byte ∷ []) ++ h.more;
    none = h.none;
    draws = drawn_on (Some (stop_of silence)) (fed ++ byte ∷ []) h.more old now first at outlet new r h.draws;
    begun = record { part = []; rest = greeting_said ((fed ++ byte ∷ []) ++ h.more); cut = refl };
    told = untold client;
  }
  drops_greeting (Err Unsaid) new client is h = absurd h

  -- another is passed
  passes_said : (more : List ℕ) → is_welcome code ≡ false → greeting_said ((fed ++ byte ∷ []) ++ more) ≡ t.kept ++ more
  passes_said more is = t.said more ∙ other_all code (t.kept ++ more) is

  passes_greeting : (result : Result Replied Miss) (new client new_client : Speaker) → is_welcome code ≡ false → PassesRest (fed ++ byte ∷ []) t.kept result (record { inlet = at; reader = now; outlet = outlet }) new client new_client → HearsBy Greeting result start new client new_client
  passes_greeting (Ok is_replied) new client new_client is h = record {
    text = (fed ++ byte ∷ []) ++ h.rest.more;
    is = h.rest.is;
    draws = answer_on is_replied (fed ++ byte ∷ []) h.rest.more old now first at outlet new r h.rest.draws;
    told = told_so ((fed ++ byte ∷ []) ++ h.rest.more) (t.kept ++ h.rest.more) client new_client (passes_said h.rest.more is) h.told;
  }
  passes_greeting (Err (Silent silence)) new client new_client is h = record {
    text = (fed ++ byte ∷ []) ++ h.rest.more;
    none = h.rest.none;
    draws = drawn_on (Some (stop_of silence)) (fed ++ byte ∷ []) h.rest.more old now first at outlet new r h.rest.draws;
    begun = record { part = h.begun.part; rest = h.begun.rest; cut = passes_said h.rest.more is ∙ h.begun.cut };
    told = h.told;
  }
  passes_greeting (Err Unsaid) new client new_client is h =
      let same : t.kept ++ h.more ≡ greeting_said ((fed ++ byte ∷ []) ++ h.more) = sym (passes_said h.more is) in
      let cut = unsaid_as (t.kept ++ h.more) (greeting_said ((fed ++ byte ∷ []) ++ h.more)) client new_client same (record { front = h.front; told = h.told }) in
      record {
        text = (fed ++ byte ∷ []) ++ h.more;
        of_text = h.of_text;
        draws = drawn_on None (fed ++ byte ∷ []) h.more old now first at outlet new r h.draws;
        front = cut.front;
        told = cut.told;
      }

  -- so it is, whatever the code
  pub greets_by : (welcome : Bool) (result : Result Replied Miss) (new client new_client : Speaker) → is_welcome code ≡ welcome → PassesBy welcome (fed ++ byte ∷ []) (head_after head byte) result (record { inlet = at; reader = now; outlet = outlet }) new client new_client
      → HearsBy Greeting result start new client new_client
  greets_by true result new client new_client is h = subst (λ (c : Speaker). HearsBy Greeting result start new client c) (sym h.same) (drops_greeting result new client is h.rest)
  greets_by false result new client new_client is h =
      passes_greeting result new client new_client is (subst (λ (k : List ℕ). PassesRest (fed ++ byte ∷ []) k result (record { inlet = at; reader = now; outlet = outlet }) new client new_client) t.is_kept h)

-- ---- a line ends the greeting

front_of : (text : List ℕ) (old new : SinkView) → Cut text old new → (client : Speaker) → UnsaidSo text (record client { outlet = old }) (record client { outlet = new })
front_of text old new cut client = record {
  front = record { part = cut.part; rest = cut.rest; cut = cut.cut; short = cut.short };
  told = record { outlet = new; gets = record { count = cut.count; rose = cut.rose; is = cut.is }; is = refl };
}

pub greeted_last : (fed head : List ℕ) (byte code : ℕ) (heard : Option (List ℕ)) (result : Result Replied Miss) (old now new : LineReaderView) (first at next : SourceView) (outlet : SinkView) (client : Speaker) (sink_old sink_new : SinkView)
    → Heading fed head → first_reply fed ≡ None → Reading fed old now first at → ReadsByte (Ok byte) now new at next → length new.pending ≤ 4096 → EndsReply fed byte code heard → GivesHead code heard (head_after head byte) result sink_old sink_new
    → HearsBy Greeting result (record { inlet = first; reader = old; outlet = outlet }) (record { inlet = next; reader = new; outlet = outlet }) (record client { outlet = sink_old }) (record client { outlet = sink_new })
greeted_last fed head byte code heard (Ok is_replied) old now new first at next outlet client sink_old sink_new h unended r read near ends gives =
    let said : greeting_said (fed ++ byte ∷ []) ≡ unless_welcome code (head_after head byte) = told_last fed head byte (length (fed ++ byte ∷ [])) code ends.lf h unended ends.whole.0 in
    subst (λ (z : Replied). HearsBy Greeting (Ok z) (record { inlet = first; reader = old; outlet = outlet }) (record { inlet = next; reader = new; outlet = outlet }) (record client { outlet = sink_old }) (record client { outlet = sink_new })) (sym gives.0) (record {
      text = fed ++ byte ∷ [];
      is = ends.whole;
      draws = drawn_last fed byte old now new first at next outlet r read near;
      told = told_so (fed ++ byte ∷ []) (unless_welcome code (head_after head byte)) (record client { outlet = sink_old }) (record client { outlet = sink_new }) said (record { outlet = sink_new; gets = gives.1; is = refl });
    })
greeted_last fed head byte code heard (Err (Silent silence)) old now new first at next outlet client sink_old sink_new h unended r read near ends gives = absurd gives
greeted_last fed head byte code heard (Err Unsaid) old now new first at next outlet client sink_old sink_new h unended r read near ends gives =
    let said : greeting_said (fed ++ byte ∷ []) ≡ unless_welcome code (head_after head byte) = told_last fed head byte (length (fed ++ byte ∷ [])) code ends.lf h unended ends.whole.0 in
    let cut = unsaid_as (unless_welcome code (head_after head byte)) (greeting_said (fed ++ byte ∷ [])) (record client { outlet = sink_old }) (record client { outlet = sink_new }) (sym said) (front_of (unless_welcome code (head_after head byte)) sink_old sink_new gives client) in
    record { text = fed ++ byte ∷ []; of_text = record { front = fed; last = byte ∷ []; cut = refl; short = omega (arith); unended = unended }; draws = drawn_last fed byte old now new first at next outlet r read near; front = cut.front; told = cut.told }

-- ---- the source stops

pub greeted_stop : (stop : Stop) (fed head : List ℕ) (old now new : LineReaderView) (first at next : SourceView) (outlet : SinkView) (client : Speaker) → Heading fed head → first_reply fed ≡ None → Reading fed old now first at → ReadsByte (Err stop) now new at next → length new.pending ≤ 4096
    → HearsBy Greeting (miss_of stop) (record { inlet = first; reader = old; outlet = outlet }) (record { inlet = next; reader = new; outlet = outlet }) client client
greeted_stop stops.End fed head old now new first at next outlet client h unended r read near = record {
  text = fed;
  is = unended;
  draws = drawn_stop stops.End fed old now new first at next outlet r read near;
  told = told_so fed [] client client (none_said fed head h) (untold client);
}
greeted_stop stops.Idle fed head old now new first at next outlet client h unended r read near = record {
  text = fed;
  none = unended;
  draws = drawn_stop stops.Idle fed old now new first at next outlet r read near;
  begun = record { part = []; rest = greeting_said fed; cut = refl };
  told = untold client;
}
greeted_stop stops.Failed fed head old now new first at next outlet client h unended r read near = record {
  text = fed;
  none = unended;
  draws = drawn_stop stops.Failed fed old now new first at next outlet r read near;
  begun = record { part = []; rest = greeting_said fed; cut = refl };
  told = untold client;
}
greeted_stop stops.Spent fed head old now new first at next outlet client h unended r read near = record {
  text = fed;
  none = unended;
  draws = drawn_stop stops.Spent fed old now new first at next outlet r read near;
  begun = record { part = []; rest = greeting_said fed; cut = refl };
  told = untold client;
}
