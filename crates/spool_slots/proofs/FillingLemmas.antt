-- Messages that are being written.
use Rattle.std.proofs.Common.{◌≡◌, ℕ, ◌+◌, ◌*◌, ◌-◌, ◌<◌, ◌≤◌, lit≤, lit<, List, [], ◌∷◌, ◌++◌, length, take, drop, Option, Some, None, refl, sym, ap, subst, ◌∙◌, append_assoc, append-nil, length-append, length-drop, arith}
use Rattle.std.specs.Prelude.{IfSome, option_map}
use Rattle.std.specs.List.{AllByRecursion}
use Rattle.std.proofs.Math.Seq.{take-append_seam, drop-append-add}
use Rattle.std.proofs.lemmas.List.{length-map}
use Rattle.byte_reader.specs.Reading.{IsBytes}
use Rattle.byte_reader.specs.Exact.{two}
use Rattle.fw_disk.specs.Medium.{Medium, laid_over, written_at}
use Rattle.fw_disk.specs.DiskView.{Tape, DiskView, changed, length_told}
use Rattle.fw_disk.specs.Moments.{Through, Now, EachImage}
use Rattle.fw_disk.proofs.MomentLemmas.{through_here, through_then, through_now}
use Rattle.slot_bytes.specs.Layout.{Mail, IsMail, IsEnvelope, IsTextFrom, AreMarks, all_waiting, tagged_head, counted, each_counted}
use Rattle.spool_slots.specs.Images.{IsFreeImage}
use Rattle.spool_slots.specs.Filled.{HasAdded}
use Rattle.spool_slots.specs.Media.{IsShut, IsVacant, Pen, begun, longer, draft_head, IsDraft, IsFilling}
use Rattle.spool_slots.specs.States.{SlotView}
use Rattle.spool_slots.proofs.ShutLemmas.{shut_written, now_weaker, shut_free_now, vacant_free}

-- ---- what is known of a slot that is being filled

pub filling_shut : (pen : Pen) (view : DiskView) → Now (IsFilling pen) view → Now IsShut view
filling_shut pen view h = now_weaker (IsFilling pen) IsShut (λ m f. f.shut) view h

pub filling_free : (pen : Pen) (view : DiskView) → Now (IsFilling pen) view → Now (EachImage IsFreeImage) view
filling_free pen view h = shut_free_now view (filling_shut pen view h)

head_long : (gate : ℕ) (m : Mail) → 16 ≤ length (draft_head gate m)
head_long gate m = omega arith

draft_long : (m : Mail) (pen : Pen) (medium : Medium) → IsDraft m pen medium → (16 ≤ pen.at) × (pen.at ≤ length medium.seen)
draft_long m pen medium d =
    let at : 16 ≤ pen.at = omega (arith, d.place, length-append (draft_head d.gate m) d.written, head_long d.gate m) in
    let within : pen.at ≤ length medium.seen = omega (arith, d.place, ap length d.seen, length-append (draft_head d.gate m ++ d.written) d.rest) in
    (at, within)

filling_long : (pen : Pen) (medium : Medium) → IsFilling pen medium → (16 ≤ pen.at) × (pen.at ≤ length medium.seen)
filling_long pen medium f = draft_long f.m pen medium f.draft

told_within : (pen : Pen) (told : Option Tape) (faults : ℕ) → IfSome told (λ tape. IsFilling pen tape.now) → IfSome (length_told (record { told = told; faults = faults })) (λ len. pen.at ≤ len)
told_within pen None faults h = tt
told_within pen (Some tape) faults h = (filling_long pen tape.now h).1

pub filling_within : (pen : Pen) (view : DiskView) → Now (IsFilling pen) view → IfSome (length_told view) (λ len. pen.at ≤ len)
filling_within pen view h = told_within pen view.told view.faults h

told_length_place : (pen : Pen) (told : Option Tape) (faults : ℕ) → IfSome told (λ tape. IsFilling pen tape.now) → IfSome (length_told (record { told = told; faults = faults })) (λ len. 6 ≤ len)
told_length_place pen None faults h = tt
told_length_place pen (Some tape) faults h = let long = filling_long pen tape.now h in omega (arith, long.0, long.1)

pub filling_length_place : (pen : Pen) (view : DiskView) → Now (IsFilling pen) view → IfSome (length_told view) (λ len. 6 ≤ len)
filling_length_place pen view h = told_length_place pen view.told view.faults h

filling_vacant_at : (pen : Pen) (medium : Medium) → IsFilling pen medium → IsVacant medium
filling_vacant_at pen medium f = let long = filling_long pen medium f in record { shut = f.shut; long = omega (arith, long.0, long.1) }

pub filling_vacant : (pen : Pen) (view : DiskView) → Now (IsFilling pen) view → Now IsVacant view
filling_vacant pen view h = now_weaker (IsFilling pen) IsVacant (filling_vacant_at pen) view h

-- ---- longer messages

bytes_append : (a b : List ℕ) → IsBytes a → IsBytes b → IsBytes (a ++ b)
bytes_append [] b h k = k
bytes_append (x ∷ a) b h k = (h.0, bytes_append a b h.1 k)

longer_mail : (m : Mail) (piece : List ℕ) → IsMail m → IsBytes piece → length m.body + length piece ≤ 67108864 → IsMail (longer m piece)
longer_mail m piece is bytes small = record {
  envelope = is.envelope;
  small = omega (arith, small, length-append m.body piece);
  bytes = bytes_append m.body piece is.bytes bytes;
}

pub longer_nothing : (m : Mail) → longer m [] ≡ m
longer_nothing m = ap (λ (b : List ℕ). let l : Mail = record { from = m.from; rcpts = m.rcpts; body = b } in l) (append-nil m.body)

longer_longer : (m : Mail) (p q : List ℕ) → longer (longer m p) q ≡ longer m (p ++ q)
longer_longer m p q = ap (λ (b : List ℕ). let l : Mail = record { from = m.from; rcpts = m.rcpts; body = b } in l) (append_assoc m.body p q)

-- ---- adding nothing

pub has_added_nothing : (pen : Pen) (view : DiskView) → Now (IsFilling pen) view → HasAdded [] pen view pen view
has_added_nothing pen view h = record {
  faults = refl;
  moments = through_here IsShut view (filling_shut pen view h);
  filling = h;
  len = omega arith;
  drafts = λ m d. subst (λ (x : Mail). Now (IsDraft x pen) view) (sym (longer_nothing m)) d;
}

-- ---- one after the other

pub has_added_then : (p q : List ℕ) (pen pen' pen'' : Pen) (a b c : DiskView) → HasAdded p pen a pen' b → HasAdded q pen' b pen'' c → HasAdded (p ++ q) pen a pen'' c
has_added_then p q pen pen' pen'' a b c s t = record {
  faults = t.faults ∙ s.faults;
  moments = through_then IsShut a b c s.moments t.moments;
  filling = t.filling;
  len = omega (arith, s.len, t.len, length-append p q);
  drafts = λ m d. subst (λ (x : Mail). Now (IsDraft x pen'') c) (longer_longer m p q) (t.drafts (longer m p) (s.drafts m d));
}

pub has_added_block : (p : List ℕ) (pen pen' pen'' : Pen) (a b c : DiskView) → HasAdded p pen a pen' b → HasAdded [] pen' b pen'' c → HasAdded p pen a pen'' c
has_added_block p pen pen' pen'' a b c s t = subst (λ (l : List ℕ). HasAdded l pen a pen'' c) (append-nil p) (has_added_then p [] pen pen' pen'' a b c s t)

-- ---- holding

abbrev held_pen : Pen → List ℕ → Pen
held_pen pen piece = record { at = pen.at; held = pen.held ++ piece; len = pen.len + length piece }

held_draft : (m : Mail) (pen : Pen) (piece : List ℕ) (medium : Medium) → IsBytes piece → pen.len + length piece ≤ 67108864 → IsDraft m pen medium → IsDraft (longer m piece) (held_pen pen piece) medium
held_draft m pen piece medium bytes small d = record {
  gate = d.gate;
  written = d.written;
  rest = d.rest;
  mail = longer_mail m piece d.mail bytes (omega (arith, small, d.len));
  body = ap (λ (b : List ℕ). b ++ piece) d.body ∙ append_assoc d.written pen.held piece;
  len = omega (arith, d.len, length-append m.body piece);
  seen = d.seen;
  place = d.place;
}

held_filling : (pen : Pen) (piece : List ℕ) (medium : Medium) → IsBytes piece → pen.len + length piece ≤ 67108864 → IsFilling pen medium → IsFilling (held_pen pen piece) medium
held_filling pen piece medium bytes small f = record { shut = f.shut; m = longer f.m piece; draft = held_draft f.m pen piece medium bytes small f.draft }

held_added : (piece : List ℕ) (pen : Pen) (view : DiskView) → IsBytes piece → pen.len + length piece ≤ 67108864 → Now (IsFilling pen) view → HasAdded piece pen view (held_pen pen piece) view
held_added piece pen view bytes small h = record {
  faults = refl;
  moments = through_here IsShut view (filling_shut pen view h);
  filling = now_weaker (IsFilling pen) (IsFilling (held_pen pen piece)) (λ medium f. held_filling pen piece medium bytes small f) view h;
  len = refl;
  drafts = λ m d. now_weaker (IsDraft m pen) (IsDraft (longer m piece) (held_pen pen piece)) (λ medium x. held_draft m pen piece medium bytes small x) view d;
}

pub has_held : (piece : List ℕ) (pen pen' : Pen) (view : DiskView) → IsBytes piece → pen.len + length piece ≤ 67108864 → Now (IsFilling pen) view → pen' ≡ held_pen pen piece → HasAdded piece pen view pen' view
has_held piece pen pen' view bytes small h e = subst (λ (p : Pen). HasAdded piece pen view p view) (sym e) (held_added piece pen view bytes small h)

-- ---- writing

told_after : (P Q : Medium → Type 0) (change : Medium → Medium) → ((m : Medium) → P m → Q (change m)) → (told : Option Tape) → IfSome told (λ tape. P tape.now) → IfSome (option_map (changed change) told) (λ tape. Q tape.now)
told_after P Q change to None h = tt
told_after P Q change to (Some tape) h = to tape.now h

-- what a medium with one property has after a change, the disk has after it
pub after_change : (P Q : Medium → Type 0) (change : Medium → Medium) → ((m : Medium) → P m → Q (change m)) → (old new : DiskView) → new ≡ record old { told = option_map (changed change) old.told } → Now P old → Now Q new
after_change P Q change to old new e h = subst (λ (v : DiskView). Now Q v) (sym e) (told_after P Q change to old.told h)

-- bytes laid at the end of a front
pub laid_behind : (at : ℕ) (a b c : List ℕ) → at ≡ length a → laid_over at b (a ++ c) ≡ (a ++ b) ++ drop (length b) c
laid_behind at a b c e =
    let front : take at (a ++ c) ≡ a = ap (λ (n : ℕ). take n (a ++ c)) e ∙ take-append_seam a c in
    let behind : drop (at + length b) (a ++ c) ≡ drop (length b) c = ap (λ (n : ℕ). drop (n + length b) (a ++ c)) e ∙ drop-append-add a c (length b) in
    ap (λ (l : List ℕ). l ++ (b ++ drop (at + length b) (a ++ c))) front
    ∙ ap (λ (l : List ℕ). a ++ (b ++ l)) behind
    ∙ sym (append_assoc a b (drop (length b) c))

abbrev moved_pen : Pen → Pen
moved_pen pen = record { at = pen.at + length pen.held; held = []; len = pen.len }

written_draft : (m : Mail) (pen : Pen) (medium : Medium) → IsDraft m pen medium → IsDraft m (moved_pen pen) (written_at pen.at pen.held medium)
written_draft m pen medium d =
    let dh : List ℕ = draft_head d.gate m in
    let laid : laid_over pen.at pen.held ((dh ++ d.written) ++ d.rest) ≡ ((dh ++ d.written) ++ pen.held) ++ drop (length pen.held) d.rest = laid_behind pen.at (dh ++ d.written) pen.held d.rest d.place in
    let joined : (dh ++ d.written) ++ pen.held ≡ dh ++ (d.written ++ pen.held) = append_assoc dh d.written pen.held in
    record {
      gate = d.gate;
      written = d.written ++ pen.held;
      rest = drop (length pen.held) d.rest;
      mail = d.mail;
      body = d.body ∙ sym (append-nil (d.written ++ pen.held));
      len = d.len;
      seen = ap (λ (l : List ℕ). laid_over pen.at pen.held l) d.seen ∙ laid ∙ ap (λ (l : List ℕ). l ++ drop (length pen.held) d.rest) joined;
      place = omega (arith, d.place, ap length joined, length-append (dh ++ d.written) pen.held);
    }

written_filling : (pen : Pen) (medium : Medium) → IsFilling pen medium → IsFilling (moved_pen pen) (written_at pen.at pen.held medium)
written_filling pen medium f =
    let long = filling_long pen medium f in
    record {
      shut = shut_written medium pen.at pen.held (written_at pen.at pen.held medium).seen (omega (arith, long.0)) f.shut;
      m = f.m;
      draft = written_draft f.m pen medium f.draft;
    }

written_added : (pen : Pen) (old new : DiskView) → new ≡ record old { told = option_map (changed (written_at pen.at pen.held)) old.told } → Now (IsFilling pen) old → Through IsShut old new → HasAdded [] pen old (moved_pen pen) new
written_added pen old new e h s = record {
  faults = ap (λ (v : DiskView). v.faults) e;
  moments = s;
  filling = after_change (IsFilling pen) (IsFilling (moved_pen pen)) (written_at pen.at pen.held) (written_filling pen) old new e h;
  len = omega arith;
  drafts = λ m d. subst (λ (x : Mail). Now (IsDraft x (moved_pen pen)) new) (sym (longer_nothing m))
      (after_change (IsDraft m pen) (IsDraft m (moved_pen pen)) (written_at pen.at pen.held) (written_draft m pen) old new e d);
}

pub has_written : (at : ℕ) (held : List ℕ) (pen pen' : Pen) (old new : DiskView) → at ≡ pen.at → held ≡ pen.held → new ≡ record old { told = option_map (changed (written_at at held)) old.told } → pen' ≡ moved_pen pen → Now (IsFilling pen) old → Through IsShut old new → HasAdded [] pen old pen' new
has_written at held pen pen' old new ea eh e p h s =
    let is : new ≡ record old { told = option_map (changed (written_at pen.at pen.held)) old.told } = e
    ∙ ap (λ (n : ℕ). let v : DiskView = record old { told = option_map (changed (written_at n held)) old.told } in v) ea
    ∙ ap (λ (l : List ℕ). let v : DiskView = record old { told = option_map (changed (written_at pen.at l)) old.told } in v) eh in
    subst (λ (x : Pen). HasAdded [] pen old x new) (sym p) (written_added pen old new is h s)

-- ---- beginning

abbrev first_pen : List ℕ → Pen
first_pen head = record { at = 1 + length head; held = []; len = 0 }

front_parts : (l : List ℕ) → 1 ≤ length l → (g : ℕ) × (rest : List ℕ) × (l ≡ g ∷ rest)
front_parts [] long = absurd (omega arith)
front_parts (g ∷ rest) long = (g, rest, refl)

begun_mail : (from : List ℕ) (rcpts : List (List ℕ)) → IsEnvelope from rcpts → IsMail (begun from rcpts)
begun_mail from rcpts is = record { envelope = is; small = lit≤ tt; bytes = tt }

begun_draft : (from : List ℕ) (rcpts : List (List ℕ)) (head : List ℕ) (medium : Medium) → IsEnvelope from rcpts → head ≡ 0 ∷ tagged_head 50 0 (all_waiting rcpts) from rcpts → IsVacant medium
    → IsDraft (begun from rcpts) (first_pen head) (written_at 1 head medium)
begun_draft from rcpts head medium is e v =
    let parts = front_parts medium.seen (omega (arith, v.long)) in
    let m : Mail = begun from rcpts in
    let laid : laid_over 1 head ((parts.0 ∷ []) ++ parts.1) ≡ ((parts.0 ∷ []) ++ head) ++ drop (length head) parts.1 = laid_behind 1 (parts.0 ∷ []) head parts.1 refl in
    let front : (parts.0 ∷ []) ++ head ≡ draft_head parts.0 m = ap (λ (l : List ℕ). parts.0 ∷ l) e in
    let nothing : draft_head parts.0 m ≡ draft_head parts.0 m ++ [] = sym (append-nil (draft_head parts.0 m)) in
    record {
      gate = parts.0;
      written = [];
      rest = drop (length head) parts.1;
      mail = begun_mail from rcpts is;
      body = refl;
      len = refl;
      seen = ap (λ (l : List ℕ). laid_over 1 head l) parts.2 ∙ laid ∙ ap (λ (l : List ℕ). l ++ drop (length head) parts.1) (front ∙ nothing);
      place = omega (arith, ap length front, ap length nothing);
    }

begun_filling : (from : List ℕ) (rcpts : List (List ℕ)) (head : List ℕ) (medium : Medium) → IsEnvelope from rcpts → head ≡ 0 ∷ tagged_head 50 0 (all_waiting rcpts) from rcpts → IsVacant medium
    → IsFilling (first_pen head) (written_at 1 head medium)
begun_filling from rcpts head medium is e v = record {
  shut = shut_written medium 1 head (written_at 1 head medium).seen (lit≤ tt) v.shut;
  m = begun from rcpts;
  draft = begun_draft from rcpts head medium is e v;
}

pub begins : (from : List ℕ) (rcpts : List (List ℕ)) (head : List ℕ) (pen : Pen) (old new : DiskView) → IsEnvelope from rcpts → head ≡ 0 ∷ tagged_head 50 0 (all_waiting rcpts) from rcpts
    → pen ≡ record { at = 1 + length head; held = []; len = 0 }
    → new ≡ record old { told = option_map (changed (written_at 1 head)) old.told } → Now IsVacant old → Now (IsFilling pen) new
begins from rcpts head pen old new is e p w h =
    subst (λ (x : Pen). Now (IsFilling x) new) (sym p)
    (after_change IsVacant (IsFilling (first_pen head)) (written_at 1 head) (λ medium v. begun_filling from rcpts head medium is e v) old new w h)

pub begins_draft : (from : List ℕ) (rcpts : List (List ℕ)) (head : List ℕ) (pen : Pen) (old new : DiskView) → IsEnvelope from rcpts → head ≡ 0 ∷ tagged_head 50 0 (all_waiting rcpts) from rcpts
    → pen ≡ record { at = 1 + length head; held = []; len = 0 }
    → new ≡ record old { told = option_map (changed (written_at 1 head)) old.told } → Now IsVacant old → Now (IsDraft (begun from rcpts) pen) new
begins_draft from rcpts head pen old new is e p w h =
    subst (λ (x : Pen). Now (IsDraft (begun from rcpts) x) new) (sym p)
    (after_change IsVacant (IsDraft (begun from rcpts) (first_pen head)) (written_at 1 head) (λ medium v. begun_draft from rcpts head medium is e v) old new w h)

told_first : (told : Option Tape) (faults : ℕ) → IfSome told (λ tape. IsVacant tape.now) → IfSome (length_told (record { told = told; faults = faults })) (λ len. 1 ≤ len)
told_first None faults h = tt
told_first (Some tape) faults h = omega (arith, h.long)

pub vacant_within : (view : DiskView) → Now IsVacant view → IfSome (length_told view) (λ len. 1 ≤ len)
vacant_within view h = told_first view.told view.faults h

-- ---- what adding leaves

pub has_added_moments : (piece : List ℕ) (pen pen' : Pen) (a b : DiskView) → HasAdded piece pen a pen' b → Through IsShut a b
has_added_moments piece pen pen' a b s = s.moments

pub added_shut : (piece : List ℕ) (pen pen' : Pen) (a b : DiskView) → HasAdded piece pen a pen' b → Now IsShut b
added_shut piece pen pen' a b s = filling_shut pen' b s.filling

pub added_length_place : (piece : List ℕ) (pen pen' : Pen) (a b : DiskView) → HasAdded piece pen a pen' b → IfSome (length_told b) (λ len. 6 ≤ len)
added_length_place piece pen pen' a b s = filling_length_place pen' b s.filling

-- the front of a piece was added, and the rest is left
pub record HasAddedFront (piece rest : List ℕ) (pen : Pen) (old : DiskView) (pen' : Pen) (new : DiskView) : Type 0 where
  pub front : List ℕ
  pub parts : piece ≡ front ++ rest
  pub added : HasAdded front pen old pen' new

pub front_none : (piece : List ℕ) (pen : Pen) (view : DiskView) → Now (IsFilling pen) view → HasAddedFront piece piece pen view pen view
front_none piece pen view h = record { front = []; parts = refl; added = has_added_nothing pen view h }

pub front_more : (piece rest block after : List ℕ) (pen pen' pen'' : Pen) (a b c : DiskView) → HasAddedFront piece rest pen a pen' b → rest ≡ block ++ after → HasAdded block pen' b pen'' c → HasAddedFront piece after pen a pen'' c
front_more piece rest block after pen pen' pen'' a b c f e s = record {
  front = f.front ++ block;
  parts = f.parts ∙ ap (λ (l : List ℕ). f.front ++ l) e ∙ sym (append_assoc f.front block after);
  added = has_added_then f.front block pen pen' pen'' a b c f.added s;
}

pub front_all : (piece rest : List ℕ) (pen pen' pen'' : Pen) (a b c : DiskView) → HasAddedFront piece rest pen a pen' b → HasAdded rest pen' b pen'' c → HasAdded piece pen a pen'' c
front_all piece rest pen pen' pen'' a b c f s = subst (λ (l : List ℕ). HasAdded l pen a pen'' c) (sym f.parts) (has_added_then f.front rest pen pen' pen'' a b c f.added s)

pub front_filling : (piece rest : List ℕ) (pen pen' : Pen) (a b : DiskView) → HasAddedFront piece rest pen a pen' b → Now (IsFilling pen') b
front_filling piece rest pen pen' a b f = f.added.filling

pub front_moments : (piece rest : List ℕ) (pen pen' : Pen) (a b c : DiskView) → HasAddedFront piece rest pen a pen' b → Through IsShut b c → Through IsShut a c
front_moments piece rest pen pen' a b c f t = through_then IsShut a b c f.added.moments t

front_len : (piece rest : List ℕ) (pen pen' : Pen) (a b : DiskView) → HasAddedFront piece rest pen a pen' b → pen'.len + length rest ≡ pen.len + length piece
front_len piece rest pen pen' a b f = omega (arith, f.added.len, ap length f.parts, length-append f.front rest)

-- what is left fits, as the whole did
pub front_fits : (piece rest : List ℕ) (pen pen' : Pen) (a b : DiskView) → HasAddedFront piece rest pen a pen' b → pen.len + length piece ≤ 67108864 → pen'.len + length rest ≤ 67108864
front_fits piece rest pen pen' a b f small = omega (arith, small, front_len piece rest pen pen' a b f)

-- ---- the marks of a new message

waiting_bytes : (rcpts : List (List ℕ)) → IsBytes (all_waiting rcpts)
waiting_bytes [] = tt
waiting_bytes (r ∷ rcpts) = (lit< tt, waiting_bytes rcpts)

pub waiting_are : (rcpts : List (List ℕ)) → AreMarks 50 (length rcpts) (all_waiting rcpts)
waiting_are rcpts = record { known = (lit≤ tt, lit≤ tt); each = record { len = length-map rcpts (λ rcpt. 0); bytes = waiting_bytes rcpts } }

-- ---- the head is small

each_small : (texts : List (List ℕ)) → AllByRecursion (IsTextFrom 1 256) texts → length (each_counted texts) ≤ 258 * length texts
each_small [] all = omega arith
each_small (text ∷ texts) all =
    let more : length (each_counted texts) ≤ 258 * length texts = each_small texts all.1 in
    omega (arith, more, all.0.high, length-append (two (length text)) text, length-append (counted text) (each_counted texts))

pub head_small : (from : List ℕ) (rcpts : List (List ℕ)) (head : List ℕ) → IsEnvelope from rcpts → head ≡ 0 ∷ tagged_head 50 0 (all_waiting rcpts) from rcpts → 1 + length head ≤ 300000
head_small from rcpts head is e =
    let each : length (each_counted rcpts) ≤ 258 * length rcpts = each_small rcpts is.each in
    let marks : length (all_waiting rcpts) ≡ length rcpts = length-map rcpts (λ rcpt. 0) in
    omega (arith, ap length e, each, marks, is.few, is.from_fits.high, length-append (all_waiting rcpts ++ counted from) (each_counted rcpts), length-append (all_waiting rcpts) (counted from))

-- ---- a slot that wasn't touched

pub stays_free : (a b spelled : SlotView) → a ≡ spelled → b ≡ spelled → Now IsVacant spelled.disk → Through (EachImage IsFreeImage) a.disk b.disk
stays_free a b spelled e f h =
    let stays : Through (EachImage IsFreeImage) spelled.disk spelled.disk = through_here (EachImage IsFreeImage) spelled.disk (vacant_free spelled.disk h) in
    let along : Through (EachImage IsFreeImage) a.disk spelled.disk = subst (λ (s : SlotView). Through (EachImage IsFreeImage) s.disk spelled.disk) (sym e) stays in
    subst (λ (s : SlotView). Through (EachImage IsFreeImage) a.disk s.disk) (sym f) along
