-- What turns come to at the mailers.
use Rattle.std.proofs.Common.{arith, ◌≡◌, refl, sym, ap, ◌∙◌, ℕ, ◌+◌, List, [], ◌∷◌, ◌++◌, length, map, append_assoc, append-nil, Option, Some, None}
use Rattle.std.proofs.lemmas.List.{length-map}
use Rattle.fw_mail.specs.MailerView.{HandsFirst, MailerView}
use Rattle.fw_mail.specs.declared.handed.Handed.{Handed}
use Rattle.fw_mail.specs.declared.handed.Handed.TheVariants as answers
use Rattle.fw_outside.specs.ToldList.{grown}
use Rattle.fw_types.specs.declared.message.Message.{Message}
use Rattle.smapd_queue.specs.Turns.{Fate, Turn, accepted_by, accepted_of, failed_by, refused_by}
use Rattle.smapd_queue.specs.Turns.Fate.{Freed, NotFreed, PutAside, NotAside, PutBack, Unread}
use Rattle.smapd_queue.specs.Meeting.{MailersMeet}
use Rattle.smapd_queue.specs.Sums.{MailersGo, RoseBy}

pub grown_nil : {A : Type 0} (told : Option (List A)) → told ≡ grown told []
grown_nil None = refl
grown_nil {A} (Some xs) = ap (λ (l : List A). Some l) (sym (append-nil xs))

pub grown_both : {A : Type 0} (told : Option (List A)) (xs ys : List A) → grown (grown told xs) ys ≡ grown told (xs ++ ys)
grown_both None xs ys = refl
grown_both {A} (Some zs) xs ys = ap (λ (l : List A). Some l) (append_assoc zs xs ys)

-- a list that stands grew by no list
took_none : (xs before now : List Message) → xs ≡ [] → now ≡ before → now ≡ before ++ xs
took_none xs before now none same = same ∙ sym (append-nil before) ∙ ap (λ (l : List Message). before ++ l) (sym none)

-- ---- how many there are

pub hands_many : {A : Type 0} (view : A → MailerView) (answer : Handed) (message : Message) (old new : List A) → HandsFirst answer message (map view old) (map view new) → length new ≡ length old
hands_many view answer message old new h =
    let a = length-map old view in
    let b = length-map new view in
    let was : length (map view old) ≡ length (h.first ∷ h.others) = ap length h.was in
    let is : length (map view new) ≡ length (h.after ∷ h.others) = ap length h.is in
    omega (arith, a, b, was, is)

-- ---- one turn

pub record MetFirst (fate : Fate) (old new : List MailerView) : Type 0 where
  pub first : MailerView
  pub after : MailerView
  pub others : List MailerView
  pub were : old ≡ first ∷ others
  pub are : new ≡ after ∷ others
  pub accepted : after.accepted ≡ grown first.accepted (accepted_by fate)
  pub took : after.took ≡ first.took ++ accepted_by fate
  pub refusals : RoseBy (refused_by fate) first.refusals after.refusals
  pub faults : RoseBy (failed_by fate) first.faults after.faults

-- a list with a first member
pub record HasFirst (mailers : List MailerView) : Type 0 where
  pub first : MailerView
  pub others : List MailerView
  pub is : mailers ≡ first ∷ others

met_first : (fate : Fate) (old new : List MailerView) (answer : Handed) (message : Message) (f : HandsFirst answer message old new)
    → f.after.accepted ≡ grown f.first.accepted (accepted_by fate) → f.after.took ≡ f.first.took ++ accepted_by fate → RoseBy (refused_by fate) f.first.refusals f.after.refusals → RoseBy (failed_by fate) f.first.faults f.after.faults → MetFirst fate old new
met_first fate old new answer message f a c r e = record { first = f.first; after = f.after; others = f.others; were = f.was; are = f.is; accepted = a; took = c; refusals = r; faults = e }

by_accepted : (fate : Fate) (old new : List MailerView) (message : Message) → accepted_by fate ≡ message ∷ [] → refused_by fate ≡ 0 → failed_by fate ≡ 0 → HandsFirst answers.Accepted message old new → MetFirst fate old new
by_accepted fate old new message one none zero f =
    let refusals : f.after.refusals ≡ f.first.refusals = ap (λ (m : MailerView). m.refusals) f.hands in
    let faults : f.after.faults ≡ f.first.faults = ap (λ (m : MailerView). m.faults) f.hands in
    met_first fate old new answers.Accepted message f
    (ap (λ (m : MailerView). m.accepted) f.hands ∙ ap (grown f.first.accepted) (sym one))
    (ap (λ (m : MailerView). m.took) f.hands ∙ ap (λ (l : List Message). f.first.took ++ l) (sym one)) (omega (arith, refusals, none)) (omega (arith, faults, zero))

by_refused : (fate : Fate) (old new : List MailerView) (message : Message) → accepted_by fate ≡ [] → refused_by fate ≡ 1 → failed_by fate ≡ 0 → HandsFirst answers.Refused message old new → MetFirst fate old new
by_refused fate old new message none one zero f =
    let refusals : f.after.refusals ≡ f.hands.count = ap (λ (m : MailerView). m.refusals) f.hands.is in
    let faults : f.after.faults ≡ f.first.faults = ap (λ (m : MailerView). m.faults) f.hands.is in
    let rose = f.hands.rose.1 in
    met_first fate old new answers.Refused message f
    (ap (λ (m : MailerView). m.accepted) f.hands.is ∙ grown_nil f.first.accepted ∙ ap (grown f.first.accepted) (sym none))
    (took_none (accepted_by fate) f.first.took f.after.took none (ap (λ (m : MailerView). m.took) f.hands.is)) (omega (arith, refusals, rose, one)) (omega (arith, faults, zero))

by_failed : (fate : Fate) (old new : List MailerView) (message : Message) → accepted_by fate ≡ [] → refused_by fate ≡ 0 → failed_by fate ≡ 1 → HandsFirst answers.Failed message old new → MetFirst fate old new
by_failed fate old new message none zero one f =
    let refusals : f.after.refusals ≡ f.first.refusals = ap (λ (m : MailerView). m.refusals) f.hands.is in
    let faults : f.after.faults ≡ f.hands.count = ap (λ (m : MailerView). m.faults) f.hands.is in
    let rose = f.hands.rose.1 in
    met_first fate old new answers.Failed message f
    (ap (λ (m : MailerView). m.accepted) f.hands.is ∙ grown_nil f.first.accepted ∙ ap (grown f.first.accepted) (sym none))
    (took_none (accepted_by fate) f.first.took f.after.took none (ap (λ (m : MailerView). m.took) f.hands.is)) (omega (arith, refusals, zero)) (omega (arith, faults, rose, one))

-- a mailer that wasn't handed anything
by_nobody : (fate : Fate) (old new : List MailerView) → accepted_by fate ≡ [] → refused_by fate ≡ 0 → failed_by fate ≡ 0 → HasFirst old → new ≡ old → MetFirst fate old new
by_nobody fate old new none zero nought h same = record {
  first = h.first;
  after = h.first;
  others = h.others;
  were = h.is;
  are = same ∙ h.is;
  accepted = grown_nil h.first.accepted ∙ ap (grown h.first.accepted) (sym none);
  took = took_none (accepted_by fate) h.first.took h.first.took none refl;
  refusals = omega (arith, zero);
  faults = omega (arith, nought);
}

pub met_by : (fate : Fate) (old new : List MailerView) → HasFirst old → MailersMeet fate old new → MetFirst fate old new
met_by (Freed message free) old new some h = by_accepted (Freed message free) old new message refl refl refl h
met_by (NotFreed message broken) old new some h = by_accepted (NotFreed message broken) old new message refl refl refl h
met_by (PutAside message aside) old new some h = by_refused (PutAside message aside) old new message refl refl refl h
met_by (NotAside message broken) old new some h = by_refused (NotAside message broken) old new message refl refl refl h
met_by (PutBack message) old new some h = by_failed (PutBack message) old new message refl refl refl h
met_by (Unread broken) old new some h = by_nobody (Unread broken) old new refl refl refl some h

-- ---- none, and one more in front

pub mailers_here : (mailers new : List MailerView) → HasFirst mailers → new ≡ mailers → MailersGo [] mailers new
mailers_here mailers new h same = record {
  first = h.first;
  after = h.first;
  others = h.others;
  were = h.is;
  are = same ∙ h.is;
  accepted = grown_nil h.first.accepted;
  took = sym (append-nil h.first.took);
  refusals = omega arith;
  faults = omega arith;
}

pub mailers_lacked : (message : Message) (mailers new : List MailerView) → HandsFirst answers.NoMemory message mailers new → MailersGo [] mailers new
mailers_lacked message mailers new f =
    mailers_here mailers new (record { first = f.first; others = f.others; is = f.was }) (f.is ∙ ap (λ (m : MailerView). m ∷ f.others) f.hands ∙ sym f.was)

first_is : (x y : MailerView) (xs ys : List MailerView) → x ∷ xs ≡ y ∷ ys → x ≡ y
first_is x y xs ys e = cc

rest_is : (x y : MailerView) (xs ys : List MailerView) → x ∷ xs ≡ y ∷ ys → xs ≡ ys
rest_is x y xs ys e = cc

pub mailers_first : (turn : Turn) (turns : List Turn) (old middle new : List MailerView) → MetFirst turn.fate old middle → MailersGo turns middle new → MailersGo (turn ∷ turns) old new
mailers_first turn turns old middle new m g =
    let same : m.after ≡ g.first = first_is m.after g.first m.others g.others (sym m.are ∙ g.were) in
    let rest : g.others ≡ m.others = sym (rest_is m.after g.first m.others g.others (sym m.are ∙ g.were)) in
    let refusals_same : m.after.refusals ≡ g.first.refusals = ap (λ (v : MailerView). v.refusals) same in
    let faults_same : m.after.faults ≡ g.first.faults = ap (λ (v : MailerView). v.faults) same in
    let r = m.refusals in
    let s = g.refusals in
    let e = m.faults in
    let f = g.faults in
    record {
      first = m.first;
      after = g.after;
      others = m.others;
      were = m.were;
      are = g.are ∙ ap (λ (l : List MailerView). g.after ∷ l) rest;
      accepted = g.accepted
          ∙ ap (λ (v : MailerView). grown v.accepted (accepted_of turns)) (sym same)
          ∙ ap (λ (a : Option (List Message)). grown a (accepted_of turns)) m.accepted
          ∙ grown_both m.first.accepted (accepted_by turn.fate) (accepted_of turns);
      took = g.took
          ∙ ap (λ (v : MailerView). v.took ++ accepted_of turns) (sym same)
          ∙ ap (λ (l : List Message). l ++ accepted_of turns) m.took
          ∙ append_assoc m.first.took (accepted_by turn.fate) (accepted_of turns);
      refusals = omega (arith, refusals_same, r, s);
      faults = omega (arith, faults_same, e, f);
    }

pub has_after : (fate : Fate) (old new : List MailerView) → MetFirst fate old new → HasFirst new
has_after fate old new m = record { first = m.after; others = m.others; is = m.are }
