-- What becomes of a spool whose slots are those of a rack, call by call.
use Rattle.std.proofs.Common.{arith, ◌≡◌, refl, sym, ap, subst, ◌∙◌, ℕ, ◌+◌, ◌<◌, ◌≤◌, ◌⊎◌, inl, inr, Bool, true, false, nat_eq, List, [], ◌∷◌, ◌++◌, length, map, append_assoc, append-nil, Option, Some, None}
use Rattle.std.specs.Prelude.{if◌then◌else◌}
use Rattle.std.specs.List.{AllByRecursion, Contains}
use Rattle.std.proofs.lemmas.List.{map-append}
use Rattle.fw_disk.specs.DiskView.{DiskView, Tape}
use Rattle.fw_disk.specs.Medium.{Medium, IsImage, settled}
use Rattle.fw_disk.specs.Moments.{EachImage, Now}
use Rattle.fw_disk.proofs.MediumLemmas.{settled_only}
use Rattle.slot_bytes.specs.Layout.{Mail}
use Rattle.slot_bytes.specs.Reading.{reads}
use Rattle.slot_bytes.specs.Reading.Reading.{Whole}
use Rattle.spool_law.specs.Events.{ArePossible, CanAnswer, Event, after, after_all}
use Rattle.spool_law.specs.Events.Event.{At}
use Rattle.spool_law.specs.Events.Step.{Answer}
use Rattle.spool_law.specs.Images.{IsKept}
use Rattle.spool_law.specs.Runs.{Known, Runs, known_in, tape_after, tape_on, taped}
use Rattle.spool_law.specs.World.{Letter, OfLetter, Use, World, letters}
use Rattle.spool_law.specs.World.Use.{Opened}
use Rattle.spool_rack.specs.Opening.{HeldView, all_of}
use Rattle.spool_rack.specs.Store.{Queues}
use Rattle.spool_slots.specs.Media.{IsSettled}
use Rattle.spool_runs.specs.OnDisks.{AreAccepted, AreAnswered, AreNumbered, IsStepOf}
use Rattle.spool_runs.proofs.RackLemmas.{Called, Fits, HasTape, IsFullOn, IsMoved, IsRack, called, fits_after, moved_below, moved_rack, moved_told, now_told, rack_same, taped_all}
use Rattle.spool_runs.proofs.TapeLemmas.{after_both, each_both, medium_along, possible_both, taped_both}

-- Events of the spool led to a rack with these queues, by which these messages were answered for and accepted.
pub record Grown (count : ℕ) (answered accepted : List Mail) (w : World) (tapes : ℕ → Tape) (queues : Option Queues) : Type 0 where
  pub events : List Event
  pub steps : AllByRecursion (IsStepOf count) events
  pub possible : ArePossible events w
  pub q : Queues
  pub queues_are : queues ≡ Some q
  pub rack : IsRack count (taped_all events w tapes) q
  pub answers : AreAnswered answered w (after_all events w)
  pub accepts : AreAccepted accepted w (after_all events w)

-- ---- one after another

numbered_both : (a b c : ℕ) (xs ys : List Letter) → AreNumbered a xs b → AreNumbered b ys c → AreNumbered a (xs ++ ys) c
numbered_both a b c [] [] p q = omega (arith, p, q)
numbered_both a b c [] (y ∷ ys) p q = let first = q.0 in (omega (arith, p, first), q.1)
numbered_both a b c (x ∷ xs) ys p q = (p.0, numbered_both (x.number + 1) b c xs ys p.1 q)

mails_both : (xs ys : List Letter) (a b : List Mail) → map (λ (l : Letter). l.mail) xs ≡ a → map (λ (l : Letter). l.mail) ys ≡ b → map (λ (l : Letter). l.mail) (xs ++ ys) ≡ a ++ b
mails_both xs ys a b p q = map-append (λ (l : Letter). l.mail) xs ys ∙ ap (λ (m : List Mail). m ++ map (λ (l : Letter). l.mail) ys) p ∙ ap (λ (m : List Mail). a ++ m) q

pub answers_both : (a b : List Mail) (u v w : World) → AreAnswered a u v → AreAnswered b v w → AreAnswered (a ++ b) u w
answers_both a b u v w x y = record {
  letters = x.letters ++ y.letters;
  grew = y.grew ∙ ap (λ (l : List Letter). l ++ y.letters) x.grew ∙ append_assoc u.answered x.letters y.letters;
  are = mails_both x.letters y.letters a b x.are y.are;
  begun = numbered_both u.begun v.begun w.begun x.letters y.letters x.begun y.begun;
}

pub accepts_both : (a b : List Mail) (u v w : World) → AreAccepted a u v → AreAccepted b v w → AreAccepted (a ++ b) u w
accepts_both a b u v w x y = record {
  letters = x.letters ++ y.letters;
  grew = y.grew ∙ ap (λ (l : List Letter). l ++ y.letters) x.grew ∙ append_assoc u.accepted x.letters y.letters;
  are = mails_both x.letters y.letters a b x.are y.are;
}

-- what more led from where the first led
pub grown_both : (count : ℕ) (a b c d : List Mail) (w : World) (tapes : ℕ → Tape) (middle last : Option Queues) (x : Grown count a c w tapes middle)
    → Grown count b d (after_all x.events w) (taped_all x.events w tapes) last → Grown count (a ++ b) (c ++ d) w tapes last
grown_both count a b c d w tapes middle last x y =
    let both : after_all (x.events ++ y.events) w ≡ after_all y.events (after_all x.events w) = after_both x.events y.events w in
    record {
      events = x.events ++ y.events;
      steps = each_both (IsStepOf count) x.events y.events x.steps y.steps;
      possible = possible_both x.events y.events w x.possible y.possible;
      q = y.q;
      queues_are = y.queues_are;
      rack = rack_same count (taped_all y.events (after_all x.events w) (taped_all x.events w tapes)) (taped_all (x.events ++ y.events) w tapes) y.q (λ k. taped_both k x.events y.events w (tapes k)) y.rack;
      answers = subst (AreAnswered (a ++ b) w) (sym both) (answers_both a b w (after_all x.events w) (after_all y.events (after_all x.events w)) x.answers y.answers);
      accepts = subst (AreAccepted (c ++ d) w) (sym both) (accepts_both c d w (after_all x.events w) (after_all y.events (after_all x.events w)) x.accepts y.accepts);
    }

pub answers_none : (u v : World) → u.begun ≤ v.begun → v.answered ≡ u.answered → AreAnswered [] u v
answers_none u v le is = record { letters = []; grew = is ∙ sym (append-nil u.answered); are = refl; begun = le }

pub accepts_none : (u v : World) → v.accepted ≡ u.accepted → AreAccepted [] u v
accepts_none u v is = record { letters = []; grew = is ∙ sym (append-nil u.accepted); are = refl }

pub grown_here : (count : ℕ) (w : World) (tapes : ℕ → Tape) (q : Queues) (queues : Option Queues) → queues ≡ Some q → IsRack count tapes q → Grown count [] [] w tapes queues
grown_here count w tapes q queues is rack = record {
  events = [];
  steps = tt;
  possible = tt;
  q = q;
  queues_are = is;
  rack = rack;
  answers = answers_none w w (omega arith) refl;
  accepts = accepts_none w w refl;
}

-- ---- a slot that was called and put back

-- the call of a slot that moved
pub moves : (count : ℕ) (w : World) (tapes : ℕ → Tape) (q r : Queues) (old new : HeldView) (l : Known) → Fits w tapes → IsRack count tapes q → IsMoved old new q r → Runs (known_in w old.number) old.disk l new.disk
    → Called count old.number l w (tapes old.number) new.disk
moves count w tapes q r old new l fits rack moved runs =
    called count old.number l w (tapes old.number) old.disk new.disk (moved_below count tapes tapes old new q r moved rack) (fits old.number) (moved_told count tapes tapes old new q r moved rack) runs

pub moves_rack : (count : ℕ) (w : World) (tapes : ℕ → Tape) (q r : Queues) (old new : HeldView) (l : Known) → IsRack count tapes q → (moved : IsMoved old new q r) → (c : Called count old.number l w (tapes old.number) new.disk) → AllByRecursion IsFullOn r.full
    → IsRack count (taped_all c.events w tapes) r
moves_rack count w tapes q r old new l rack moved c full =
    moved_rack count tapes (taped_all c.events w tapes) old new q r moved rack (λ k away. c.tapes k (tapes k) away)
    (c.here ∙ ap (λ (n : ℕ). Some (taped n c.events w (tapes n))) (sym moved.number)) full

known_begun : (w : World) (n : ℕ) (l : Known) → known_in w n ≡ l → w.begun ≡ l.begun
known_begun w n l is = ap (λ (k : Known). k.begun) is

known_accepted : (w : World) (n : ℕ) (l : Known) → known_in w n ≡ l → w.accepted ≡ l.accepted
known_accepted w n l is = ap (λ (k : Known). k.accepted) is

-- No message was answered for; these were accepted.
pub grown_moved : (count : ℕ) (accepted : List Letter) (w : World) (tapes : ℕ → Tape) (q r : Queues) (queues : Option Queues) (old new : HeldView) (l : Known) → Fits w tapes → IsRack count tapes q → IsMoved old new q r → queues ≡ Some r → AllByRecursion IsFullOn r.full
    → Runs (known_in w old.number) old.disk l new.disk → w.begun ≤ l.begun → l.accepted ≡ w.accepted ++ accepted → Grown count [] (map (λ (l : Letter). l.mail) accepted) w tapes queues
grown_moved count accepted w tapes q r queues old new l fits rack moved is full runs begun more =
    let c = moves count w tapes q r old new l fits rack moved runs in
    let last : World = after_all c.events w in
    let now_begun = known_begun last old.number l c.known in
    record {
      events = c.events;
      steps = c.steps;
      possible = c.possible;
      q = r;
      queues_are = is;
      rack = moves_rack count w tapes q r old new l rack moved c full;
      answers = answers_none w last (omega (arith, begun, now_begun)) c.answered;
      accepts = record { letters = accepted; grew = known_accepted last old.number l c.known ∙ more; are = refl };
    }

-- ---- a message that was kept

pub settled_kept : (mail : Mail) (m : Medium) → IsSettled (Whole mail) m → EachImage (IsKept mail) m
settled_kept mail m s image im =
    let same : image ≡ m.seen = settled_only m.seen image (subst (λ (x : Medium). IsImage x image) s.clean im) in
    inl (ap reads same ∙ s.read)

if_same : (b : Bool) (tape : Tape) → (if b then tape else tape) ≡ tape
if_same true tape = refl
if_same false tape = refl

-- an answer leaves the tapes
answer_tapes : (k n : ℕ) (w : World) (tape : Tape) → taped k (At n Answer ∷ []) w tape ≡ tape
answer_tapes k n w tape = if_same (nat_eq k n) tape

may_answer : (w : World) (n : ℕ) (l : Letter) → (w.slots n).use_of ≡ Opened l → EachImage (IsKept l.mail) (w.slots n).medium → CanAnswer w.accepted (w.slots n)
may_answer w n l is each = subst (OfLetter (λ x. EachImage (IsKept x.mail) (w.slots n).medium ⊎ Contains w.accepted x)) (sym is) (inl each)

answered_more : (u w : World) (n : ℕ) (l : Letter) → (w.slots n).use_of ≡ Opened l → w.answered ≡ u.answered → (after (At n Answer) w).answered ≡ u.answered ++ l ∷ []
answered_more u w n l is same = ap (λ (x : Use). w.answered ++ letters x) is ∙ ap (λ (a : List Letter). a ++ l ∷ []) same

-- one message stands in the slot and was answered for
pub grown_kept : (count : ℕ) (letter : Letter) (w : World) (tapes : ℕ → Tape) (q r : Queues) (queues : Option Queues) (old new : HeldView) (l : Known) → Fits w tapes → IsRack count tapes q → IsMoved old new q r → queues ≡ Some r → AllByRecursion IsFullOn r.full
    → Runs (known_in w old.number) old.disk l new.disk → l.use_of ≡ Opened letter → Now (IsSettled (Whole letter.mail)) new.disk → letter.number ≡ w.begun → l.begun ≡ w.begun + 1 → l.accepted ≡ w.accepted
    → Grown count (letter.mail ∷ []) [] w tapes queues
grown_kept count letter w tapes q r queues old new l fits rack moved is full runs use_is keeps number begun more =
    let n : ℕ = old.number in
    let c = moves count w tapes q r old new l fits rack moved runs in
    let mid : World = after_all c.events w in
    let last : World = after (At n Answer) mid in
    let both : after_all (c.events ++ At n Answer ∷ []) w ≡ last = after_both c.events (At n Answer ∷ []) w in
    let opened : (mid.slots n).use_of ≡ Opened letter = ap (λ (k : Known). k.use_of) c.known ∙ use_is in
    let medium : (mid.slots n).medium ≡ (taped n c.events w (tapes n)).now = medium_along n count c.events w (tapes n) c.steps (fits n) in
    let settled_so : IsSettled (Whole letter.mail) (mid.slots n).medium = subst (IsSettled (Whole letter.mail)) (sym medium) (now_told (IsSettled (Whole letter.mail)) new.disk (taped n c.events w (tapes n)) c.here keeps) in
    let may = may_answer mid n letter opened (settled_kept letter.mail (mid.slots n).medium settled_so) in
    let now_begun = known_begun mid n l c.known in
    let same : (k : ℕ) → taped_all (c.events ++ At n Answer ∷ []) w tapes k ≡ taped_all c.events w tapes k = λ k. taped_both k c.events (At n Answer ∷ []) w (tapes k) ∙ answer_tapes k n mid (taped k c.events w (tapes k)) in
    let below = moved_below count tapes tapes old new q r moved rack in
    record {
      events = c.events ++ At n Answer ∷ [];
      steps = each_both (IsStepOf count) c.events (At n Answer ∷ []) c.steps (below, tt);
      possible = possible_both c.events (At n Answer ∷ []) w c.possible (may, tt);
      q = r;
      queues_are = is;
      rack = rack_same count (taped_all c.events w tapes) (taped_all (c.events ++ At n Answer ∷ []) w tapes) r same (moves_rack count w tapes q r old new l rack moved c full);
      answers = subst (AreAnswered (letter.mail ∷ []) w) (sym both) (record {
        letters = letter ∷ [];
        grew = answered_more w mid n letter opened c.answered;
        are = refl;
        begun = (omega (arith, number), omega (arith, number, begun, now_begun));
      });
      accepts = subst (AreAccepted [] w) (sym both) (accepts_none w last (append-nil mid.accepted ∙ known_accepted mid n l c.known ∙ more));
    }
