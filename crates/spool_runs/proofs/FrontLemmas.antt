-- What some first events of a run answered for, and what was accepted by them.
use Rattle.std.proofs.Common.{arith, ◌≡◌, refl, sym, ap, subst, ◌∙◌, ℕ, suc, ◌+◌, ◌<◌, ◌≤◌, List, [], ◌∷◌, ◌++◌, length, map, take, append_assoc, append-nil, lit<}
use Rattle.std.specs.List.{AllByRecursion, Contains}
use Rattle.std.proofs.lemmas.List.{append_cancel_left, length-append, map-append}
use Rattle.std.proofs.lemmas.List.Elements.{Contains-append_left, Contains-append_right}
use Rattle.slot_bytes.specs.Layout.{Mail}
use Rattle.spool_law.specs.Events.{ArePossible, Event, IsPossibleAt, Step, accepts, after, after_all, answers, begins}
use Rattle.spool_law.specs.Events.Event.{At, Crash}
use Rattle.spool_law.specs.Events.Step.{Start, Add, Write, Sync, OpenGate, Answer, Accept, CloseGate, SetAside}
use Rattle.spool_law.specs.World.{Letter, OfLetter, Slot, Use, World, letters}
use Rattle.spool_law.specs.World.Use.{Unused, Begun, CutOff, Opened}
use Rattle.spool_law.proofs.BelowLemmas.{answered_below}
use Rattle.spool_runs.specs.History.{IsLeft, accepts_in, answers_in, is_accept, is_answer}
use Rattle.spool_runs.specs.OnDisks.{AreAccepted, AreAnswered, AreNumbered, IsReachable}
use Rattle.spool_runs.proofs.ReachLemmas.{its_message, reached}
use Rattle.spool_runs.proofs.TapeLemmas.{after_both, possible_front}

-- ---- lists

pub all_of : (P : Letter → Type 0) (ls : List Letter) → ((l : Letter) → Contains ls l → P l) → AllByRecursion P ls
all_of P [] so = tt
all_of P (x ∷ ls) so = (so x (Contains-append_left (x ∷ []) ls x (0, lit< tt, refl)), all_of P ls (λ l has. so l (Contains-append_right (x ∷ []) ls l has)))

take_front : (xs ys : List Mail) → take (length xs) (xs ++ ys) ≡ xs
take_front [] ys = refl
take_front (x ∷ xs) ys = ap (λ (l : List Mail). x ∷ l) (take_front xs ys)

many_mails : (ls : List Letter) → length (map (λ (l : Letter). l.mail) ls) ≡ length ls
many_mails [] = refl
many_mails (l ∷ ls) = ap (λ (n : ℕ). suc n) (many_mails ls)

-- the first so many messages are those of the first letters
front_mails : (all front rest : List Letter) (mails : List Mail) (n : ℕ) → all ≡ front ++ rest → map (λ (l : Letter). l.mail) all ≡ mails → length front ≡ n → map (λ (l : Letter). l.mail) front ≡ take n mails
front_mails all front rest mails n is are many =
    let mail : Letter → Mail = λ l. l.mail in
    let both : map mail front ++ map mail rest ≡ mails = sym (map-append mail front rest) ∙ ap (map mail) (sym is) ∙ are in
    sym (take_front (map mail front) (map mail rest)) ∙ ap (λ (k : ℕ). take k (map mail front ++ map mail rest)) (many_mails front ∙ many) ∙ ap (take n) both

front_numbered : (a b c : ℕ) (xs ys : List Letter) → AreNumbered a (xs ++ ys) b → AllByRecursion (λ l. l.number < c) xs → a ≤ c → AreNumbered a xs c
front_numbered a b c [] ys p below le = le
front_numbered a b c (x ∷ xs) ys p below le = let lt = below.0 in (p.0, front_numbered (x.number + 1) b c xs ys p.1 below.1 (omega (arith, lt)))

-- what one list grew by is the first of what it grew by later
front_of_more : (base all front rest now last : List Letter) → now ≡ base ++ front → last ≡ now ++ rest → last ≡ base ++ all → all ≡ front ++ rest
front_of_more base all front rest now last one two three =
    append_cancel_left base all (front ++ rest) (sym three ∙ two ∙ ap (λ (l : List Letter). l ++ rest) one ∙ append_assoc base front rest)

-- ---- numbers

pub reachable_below : (w : World) → IsReachable w → (l : Letter) → Contains w.answered l → l.number < w.begun
reachable_below w r = subst (λ (x : World). (l : Letter) → Contains x.answered l → l.number < x.begun) r.is (answered_below r.events r.possible)

begun_grows : (events : List Event) (w : World) → w.begun ≤ (after_all events w).begun
begun_grows [] w = omega arith
begun_grows (At n step ∷ events) w =
    let more : w.begun + begins step ≤ (after_all events (after (At n step) w)).begun = begun_grows events (after (At n step) w) in
    omega (arith, more)
begun_grows (Crash images ∷ events) w = begun_grows events (after (Crash images) w)

-- ---- answers among events

one_letter : (P : Letter → Type 0) (u : Use) → OfLetter P u → length (letters u) ≡ 1
one_letter P Unused h = absurd h
one_letter P (Begun l) h = refl
one_letter P (CutOff l) h = refl
one_letter P (Opened l) h = refl

step_answers : (step : Step) (accepted : List Letter) (s : Slot) → IsPossibleAt step accepted s → length (answers step s.use_of) ≡ is_answer step
step_answers (Start from rcpts) accepted s can = refl
step_answers (Add piece) accepted s can = refl
step_answers (Write at bytes o) accepted s can = refl
step_answers Sync accepted s can = refl
step_answers (OpenGate o) accepted s can = refl
step_answers Answer accepted s can = one_letter _ s.use_of can
step_answers Accept accepted s can = refl
step_answers (CloseGate o) accepted s can = refl
step_answers (SetAside o) accepted s can = refl

-- as many messages were answered for as there are answers
record AnswersSo (events : List Event) (w : World) : Type 0 where
  more : List Letter
  grew : (after_all events w).answered ≡ w.answered ++ more
  many : length more ≡ answers_in events

answers_so : (events : List Event) (w : World) → ArePossible events w → AnswersSo events w
answers_so [] w can = record { more = []; grew = sym (append-nil w.answered); many = refl }
answers_so (At n step ∷ events) w can =
    let first : List Letter = answers step (w.slots n).use_of in
    let rest = answers_so events (after (At n step) w) can.1 in
    let one = step_answers step w.accepted (w.slots n) can.0 in
    let others = rest.many in
    let long = length-append first rest.more in
    record {
      more = first ++ rest.more;
      grew = rest.grew ∙ append_assoc w.answered first rest.more;
      many = omega (arith, one, others, long);
    }
answers_so (Crash images ∷ events) w can =
    let rest = answers_so events (after (Crash images) w) can.1 in
    record { more = rest.more; grew = rest.grew; many = rest.many }

possible_rest : (a b : List Event) (w : World) → ArePossible (a ++ b) w → ArePossible b (after_all a w)
possible_rest [] b w can = can
possible_rest (e ∷ a) b w can = possible_rest a b (after e w) can.1

pub front_answers : (mails : List Mail) (front rest : List Event) (w : World) → ArePossible (front ++ rest) w → ((l : Letter) → Contains (after_all front w).answered l → l.number < (after_all front w).begun)
    → AreAnswered mails w (after_all (front ++ rest) w) → AreAnswered (take (answers_in front) mails) w (after_all front w)
front_answers mails front rest w can below a =
    let now : World = after_all front w in
    let first = answers_so front w (possible_front front rest w can) in
    let others = answers_so rest now (possible_rest front rest w can) in
    let last : (after_all (front ++ rest) w).answered ≡ now.answered ++ others.more = ap (λ (x : World). x.answered) (after_both front rest w) ∙ others.grew in
    let is : a.letters ≡ first.more ++ others.more = front_of_more w.answered a.letters first.more others.more now.answered (after_all (front ++ rest) w).answered first.grew last a.grew in
    let numbers = all_of (λ (l : Letter). l.number < now.begun) first.more (λ l has. below l (subst (λ (ls : List Letter). Contains ls l) (sym first.grew) (Contains-append_right w.answered first.more l has))) in
    record {
      letters = first.more;
      grew = first.grew;
      are = front_mails a.letters first.more others.more mails (answers_in front) is a.are first.many;
      begun = front_numbered w.begun (after_all (front ++ rest) w).begun now.begun first.more others.more (subst (λ (ls : List Letter). AreNumbered w.begun ls (after_all (front ++ rest) w).begun) is a.begun) numbers (begun_grows front w);
    }

-- a crash leaves what was answered for
pub answers_crashed : (images : ℕ → List ℕ) (mails : List Mail) (u w v : World) → IsLeft images w v → AreAnswered mails u w → AreAnswered mails u v
answers_crashed images mails u w v left a = subst (AreAnswered mails u) (sym left.is) (record { letters = a.letters; grew = a.grew; are = a.are; begun = a.begun })

-- ---- acceptances among events

accepts_one : (w : World) (n : ℕ) (step : Step) → IsReachable w → IsPossibleAt step w.accepted (w.slots n) → length (accepts step (w.slots n).use_of) ≡ is_accept step
accepts_one w n (Start from rcpts) reach can = refl
accepts_one w n (Add piece) reach can = refl
accepts_one w n (Write at bytes o) reach can = refl
accepts_one w n Sync reach can = refl
accepts_one w n (OpenGate o) reach can = refl
accepts_one w n Answer reach can = refl
accepts_one w n Accept reach can = ap (λ (u : Use). length (letters u)) (its_message w n reach can).is
accepts_one w n (CloseGate o) reach can = refl
accepts_one w n (SetAside o) reach can = refl

-- as many messages were accepted as there are acceptances
record AcceptsSo (events : List Event) (w : World) : Type 0 where
  more : List Letter
  grew : (after_all events w).accepted ≡ w.accepted ++ more
  many : length more ≡ accepts_in events

next_reached : (e : Event) (events : List Event) (w : World) → IsReachable w → ArePossible (e ∷ events) w → IsReachable (after e w)
next_reached e events w reach can = reached w (after e w) reach (record { events = e ∷ []; possible = (can.0, tt); is = refl })

accepts_so : (events : List Event) (w : World) → IsReachable w → ArePossible events w → AcceptsSo events w
accepts_so [] w reach can = record { more = []; grew = sym (append-nil w.accepted); many = refl }
accepts_so (At n step ∷ events) w reach can =
    let first : List Letter = accepts step (w.slots n).use_of in
    let rest = accepts_so events (after (At n step) w) (next_reached (At n step) events w reach can) can.1 in
    let one = accepts_one w n step reach can.0 in
    let others = rest.many in
    let long = length-append first rest.more in
    record {
      more = first ++ rest.more;
      grew = rest.grew ∙ append_assoc w.accepted first rest.more;
      many = omega (arith, one, others, long);
    }
accepts_so (Crash images ∷ events) w reach can =
    let rest = accepts_so events (after (Crash images) w) (next_reached (Crash images) events w reach can) can.1 in
    record { more = rest.more; grew = rest.grew; many = rest.many }

all_reached : (events : List Event) (w : World) → IsReachable w → ArePossible events w → IsReachable (after_all events w)
all_reached events w reach can = reached w (after_all events w) reach (record { events = events; possible = can; is = refl })

pub front_accepts : (mails : List Mail) (front rest : List Event) (w : World) → IsReachable w → ArePossible (front ++ rest) w
    → AreAccepted mails w (after_all (front ++ rest) w) → AreAccepted (take (accepts_in front) mails) w (after_all front w)
front_accepts mails front rest w reach can a =
    let now : World = after_all front w in
    let can_front = possible_front front rest w can in
    let first = accepts_so front w reach can_front in
    let others = accepts_so rest now (all_reached front w reach can_front) (possible_rest front rest w can) in
    let last : (after_all (front ++ rest) w).accepted ≡ now.accepted ++ others.more = ap (λ (x : World). x.accepted) (after_both front rest w) ∙ others.grew in
    let is : a.letters ≡ first.more ++ others.more = front_of_more w.accepted a.letters first.more others.more now.accepted (after_all (front ++ rest) w).accepted first.grew last a.grew in
    record {
      letters = first.more;
      grew = first.grew;
      are = front_mails a.letters first.more others.more mails (accepts_in front) is a.are first.many;
    }

pub accepts_crashed : (images : ℕ → List ℕ) (mails : List Mail) (u w v : World) → IsLeft images w v → AreAccepted mails u w → AreAccepted mails u v
accepts_crashed images mails u w v left a = subst (AreAccepted mails u) (sym left.is) (record { letters = a.letters; grew = a.grew; are = a.are })
