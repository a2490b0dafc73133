-- What a request leaves of a port, whatever is answered.
use Rattle.std.proofs.Common.{◌≡◌, ℕ, ◌+◌, ◌<◌, ◌≤◌, ◌⊎◌, inl, inr, List, [], ◌∷◌, ◌++◌, length, get_or, Option, Some, None, Result, Ok, Err, refl, sym, ap, subst, ◌∙◌, length-append, arith}
use Rattle.std.specs.List.Sorted.{IsStrictlyIncreasing}
use Rattle.std.proofs.Math.ListN.{get_or-append}
use Rattle.std.proofs.Math.Seq.{get_or-append_seam}
use Rattle.std.proofs.lemmas.Bool.{cases_lt}
use Rattle.std.proofs.lemmas.List.{length_push}
use Rattle.fw_outside.specs.Counts.{Grew}
use Rattle.auth_events.specs.Port.{ArePlaces, Asks, Enters, IsFull, Port, Replies, Stays, entry_at}
use Rattle.auth_events.specs.declared.denial.Denial.TheVariants as denials
use Rattle.auth_events.specs.declared.entry.Entry.{Entry}
use Rattle.auth_events.specs.declared.port.PortFault.{PortFault}
use Rattle.auth_events.specs.declared.port.PortFault.TheVariants as faults
use Rattle.auth_events.specs.declared.reply.Reply.{Reply}
use Rattle.auth_events.specs.declared.reply.Reply.TheVariants as replies
use Rattle.auth_events.specs.declared.request.Request.{Request}

-- the last of more places is the one that was added, and before it stand the others
at_last : (mine : List ℕ) (place k : ℕ) → length mine ≡ k → get_or (mine ++ place ∷ []) k 0 ≡ place
at_last mine place k is = subst (λ (n : ℕ). get_or (mine ++ place ∷ []) n 0 ≡ place) is (get_or-append_seam mine place [] 0)

before : (mine : List ℕ) (place k : ℕ) → k < length mine → get_or (mine ++ place ∷ []) k 0 ≡ get_or mine k 0
before mine place k lt = get_or-append mine (place ∷ []) 0 k lt

is_end : (n k : ℕ) → k < n + 1 → n ≤ k → n ≡ k
is_end n k lt le = omega (arith, lt, le)

-- one place more, at the end of what was seen
pub places_added : (seen others : List Entry) (entry : Entry) (mine : List ℕ) (place : ℕ) → place ≡ length (seen ++ others) → ArePlaces seen mine → ArePlaces ((seen ++ others) ++ entry ∷ []) (mine ++ place ∷ [])
places_added seen others entry mine place is were =
    let long = length_push mine place in
    let all = length_push (seen ++ others) entry in
    let more = length-append seen others in
    record {
      rising = λ k lt.
          elim (cases_lt (k + 1) (length mine)) [
            | inl inside ↦ rw (before mine place k (omega (arith, inside)), before mine place (k + 1) inside) (were.rising k inside)
            | inr outside ↦
                let end = is_end (length mine) (k + 1) (omega (arith, lt, long)) outside in
                let here = were.within k (omega (arith, end)) in
                rw (before mine place k (omega (arith, end)), at_last mine place (k + 1) end) (omega (arith, here, is, more))
          ];
      within = λ k lt.
          elim (cases_lt k (length mine)) [
            | inl inside ↦ let here = were.within k inside in rw (before mine place k inside) (omega (arith, here, all, more))
            | inr outside ↦ rw (at_last mine place k (is_end (length mine) k (omega (arith, lt, long)) outside)) (omega (arith, is, all))
          ];
    }

-- the same places, while others entered more
pub places_kept : (seen others : List Entry) (mine : List ℕ) → ArePlaces seen mine → ArePlaces (seen ++ others) mine
places_kept seen others mine were =
    let more = length-append seen others in
    record { rising = were.rising; within = λ k lt. let here = were.within k lt in omega (arith, here, more) }

none_stays : (old new : Option ℕ) → old ≡ None → Stays old new
none_stays old new none = rw none tt

module _ {Origin : Type 0} where
  abbrev Goes : Port Origin → Port Origin → Type 0
  Goes old new = (ArePlaces old.seen old.mine → ArePlaces new.seen new.mine) × Grew 1 old.asks new.asks × Stays old.full new.full

  entered : (sid at : ℕ) (request : Request) (reply : Reply) (old new : Port Origin) → Enters sid at request reply old new → Goes old new
  entered sid at request reply old new h = (
    λ were. rw h.is (places_added old.seen h.others (entry_at sid at request h.kept reply h.place) old.mine h.place h.is_place were),
    rw h.is h.counts,
    none_stays old.full new.full h.open_before,
  )

  full : (limit : ℕ) (old new : Port Origin) → IsFull limit old new → Goes old new
  full limit old new h = (λ were. rw h.is (places_kept old.seen h.others old.mine were), rw h.is h.counts, rw h.is h.stays)

  replied : (sid at : ℕ) (request : Request) (reply : Reply) (old new : Port Origin) → Replies sid at request reply old new → Goes old new
  replied sid at request (replies.Denied (denials.Full limit)) old new h = full limit old new h
  replied sid at request reply old new h = entered sid at request reply old new h

  no_reply : (fault : PortFault) (sid at : ℕ) (request : Request) (old new : Port Origin) → Asks (Err fault) sid at request old new → Goes old new
  no_reply faults.NoMemory sid at request old new h = (λ were. rw h.is (places_kept old.seen h.others old.mine were), rw h.is h.counts, rw h.is h.stays)
  no_reply faults.Link sid at request old new h = (λ were. rw h.is (places_kept old.seen h.others old.mine were), rw h.is h.counts, rw h.is h.stays)
  no_reply faults.Strange sid at request old new h = (λ were. rw h.is (places_kept old.seen h.others old.mine were), rw h.is h.counts, rw h.is h.stays)

  goes : (answer : Result Reply PortFault) (sid at : ℕ) (request : Request) (old new : Port Origin) → Asks answer sid at request old new → Goes old new
  goes (Ok reply) sid at request old new h = replied sid at request reply old new h
  goes (Err fault) sid at request old new h = no_reply fault sid at request old new h

-- what each request leaves of a port
pub own_places : {Origin : Type 0} (answer : Result Reply PortFault) (sid at : ℕ) (request : Request) (old new : Port Origin) → Asks answer sid at request old new → ArePlaces old.seen old.mine → ArePlaces new.seen new.mine
own_places answer sid at request old new h = (goes answer sid at request old new h).0

pub counted : {Origin : Type 0} (answer : Result Reply PortFault) (sid at : ℕ) (request : Request) (old new : Port Origin) → Asks answer sid at request old new → Grew 1 old.asks new.asks
counted answer sid at request old new h = (goes answer sid at request old new h).1

pub limit_stays : {Origin : Type 0} (answer : Result Reply PortFault) (sid at : ℕ) (request : Request) (old new : Port Origin) → Asks answer sid at request old new → Stays old.full new.full
limit_stays answer sid at request old new h = (goes answer sid at request old new h).2
