-- Each turn comes nearer to the end.
use Rattle.std.proofs.Common.{rules, arith, ◌≡◌, refl, sym, subst, ℕ, suc, ◌+◌, ◌<◌, ◌≤◌, Bool, true, false, ◌&&◌, nat_lt, List, [], ◌∷◌, length, Option, Some, None, IfSome, IfOk, IsTrue, Result, Ok, Err}
use Rattle.std.specs.List.{AllByRecursion, list_all}
use Rattle.std.proofs.lemmas.Bool.{ltb-true, ltb-false}
use Rattle.auth_events.specs.Fits.{comes_after}
use Rattle.auth_events.specs.declared.reply.Reply.{Reply}
use Rattle.auth_events.specs.declared.reply.Reply.TheVariants as replies
use Rattle.auth_events.specs.declared.request.Request.TheVariants as requests
use Rattle.fw_types.specs.Bytes.{is_name_byte}
use Rattle.fw_types.specs.Name.{is_name}
use Rattle.fw_outside.specs.declared.heard.Heard.{Heard}
use Rattle.fw_outside.specs.declared.heard.Heard.TheVariants.{Line, TooLong, Stopped}
use Rattle.session_acts.specs.Acts.Act.{Hear, Ask}
use Rattle.session_acts.specs.Distance.{ahead_of_client}
use Rattle.session_acts.specs.Met.{Met}
use Rattle.session_acts.specs.World.{World}
use Rattle.session_acts.specs.declared.cause.Cause.{Cause}
use Rattle.session_acts.specs.declared.form.Form.TheVariants.{Lines}
use Rattle.session_acts.proofs.AheadLemmas.{heard_ahead, met_ahead}
use Rattle.authsrv_gate.proofs.DistanceLemmas.{below, clash, positive, rises, step_times}
use Rattle.authsrv_gate.specs.Distance.{IsFresh, IsNext, IsPlace, distance, left_at, listed_place, rank, rank_of, times, wide}
use Rattle.authsrv_gate.specs.declared.place.Place.{Place}
use Rattle.authsrv_gate.specs.declared.place.Place.TheVariants.{Waiting, Listing}

-- ---- names

name_byte : (b : ℕ) → is_name_byte b ≡ true → b < 256
name_byte b h = search rules

name_bytes : (text : List ℕ) → list_all is_name_byte text ≡ true → AllByRecursion (λ b. b < 256) text
name_bytes [] all = tt
name_bytes (b ∷ text) all = choose (is_name_byte b) refl all (λ rest. name_bytes text rest)
  where
    choose : (c : Bool) → is_name_byte b ≡ c → c && list_all is_name_byte text ≡ true → (list_all is_name_byte text ≡ true → AllByRecursion (λ x. x < 256) text) → (b < 256) × AllByRecursion (λ x. x < 256) text
    choose true is rest further = (name_byte b is, further rest)
    choose false is rest further = clash rest

pub record Named (name : List ℕ) : Type 0 where
  pub some : 0 < length name
  pub fits : length name ≤ 32
  pub bytes : AllByRecursion (λ b. b < 256) name

named : (name : List ℕ) → IsTrue (is_name name) → Named name
named name form = record { some = search rules; fits = search rules; bytes = name_bytes name (search rules) }

-- the rank of a name is above that of none
some_rank : (name : List ℕ) → 0 < length name → 0 < rank 32 name
unfolding rank
some_rank [] some = absurd (omega (arith, some))
some_rank (b ∷ text) some = let wide_some : 0 < wide 31 = positive 31 in omega (arith, wide_some)

rank_below : (after : Option (List ℕ)) → IsPlace (Listing after) → rank_of after < wide 32
rank_below None place = positive 32
rank_below (Some name) place = below 32 name (named name place).bytes

rank_rises : (after : Option (List ℕ)) (name : List ℕ) → IsPlace (Listing after) → IsTrue (is_name name) → IsTrue (comes_after after name) → rank_of after < rank 32 name
rank_rises None name place form follows = some_rank name (named name form).some
rank_rises (Some told) name place form follows = rises 32 told name (named told place).bytes (named name form).fits (search rules)

-- ---- bytes

mono_times : (x y w : ℕ) → x ≤ y → times x w ≤ times y w
mono_times x y w most = choose (nat_lt x y) refl
  where
    choose : (b : Bool) → nat_lt x y ≡ b → times x w ≤ times y w
    choose true less = let step : times x w + w ≤ times y w = step_times x y w (ltb-true x y less) in omega (arith, step)
    choose false past =
        let least : y ≤ x = ltb-false x y past in
        let same : x ≡ y = omega (arith, most, least) in
        rw same (omega (arith))

-- a fresh place is no further from the end than a whole list
fresh_left : (place : Place) → IsFresh (Some place) → left_at place < suc (wide 32)
fresh_left Waiting fresh = omega (arith)
fresh_left (Listing None) fresh = omega (arith)
fresh_left (Listing (Some name)) fresh = absurd fresh

fresh_near : {Origin : Type 0} (next : Option Place) (old new : World Origin) → IsFresh next → ahead_of_client new < ahead_of_client old → IfSome next (λ p. distance p new < distance Waiting old)
fresh_near None old new fresh less = tt
fresh_near (Some place) old new fresh less =
    let step : times (ahead_of_client new) (suc (wide 32)) + suc (wide 32) ≤ times (ahead_of_client old) (suc (wide 32)) = step_times (ahead_of_client new) (ahead_of_client old) (suc (wide 32)) less in
    let most : left_at place < suc (wide 32) = fresh_left place fresh in
    omega (arith, step, most)

pub near_line : {Origin : Type 0} (heard : Heard) (old mid new : World Origin) (next : Option Place) → Met (Hear Lines) (Ok heard) old mid → ahead_of_client new ≤ ahead_of_client mid → IsNext heard next
    → IfSome next (λ p. distance p new < distance Waiting old)
near_line (Line line) old mid new next met more fresh =
    let less = heard_ahead Lines (Line line) old mid tt met in fresh_near next old new fresh (omega (arith, less, more))
near_line TooLong old mid new next met more fresh =
    let less = heard_ahead Lines TooLong old mid tt met in fresh_near next old new fresh (omega (arith, less, more))
near_line (Stopped stop) old mid new next met more none = rw none tt

-- ---- lists

listed_left : {Origin : Type 0} (after : Option (List ℕ)) (reply : Reply) (old mid : World Origin) → IsPlace (Listing after) → IsPlace (listed_place reply) → Met (Ask (requests.List after)) (Ok reply) old mid
    → left_at (listed_place reply) < left_at (Listing after)
listed_left after (replies.Shown summary) old mid place form h =
    let most : rank_of after < wide 32 = rank_below after place in
    let more : rank_of after < rank 32 summary.name = rank_rises after summary.name place form h.office.asking.asks.fits in
    let least : rank 32 summary.name < wide 32 = below 32 summary.name (named summary.name form).bytes in
    omega (arith, most, more, least)
listed_left after (replies.Opened sid) old mid place form h = let most : rank_of after < wide 32 = rank_below after place in omega (arith, most)
listed_left after replies.Password old mid place form h = let most : rank_of after < wide 32 = rank_below after place in omega (arith, most)
listed_left after (replies.Challenge n word_seed) old mid place form h = let most : rank_of after < wide 32 = rank_below after place in omega (arith, most)
listed_left after replies.Ok old mid place form h = let most : rank_of after < wide 32 = rank_below after place in omega (arith, most)
listed_left after (replies.Denied denial) old mid place form h = let most : rank_of after < wide 32 = rank_below after place in omega (arith, most)

pub near_list : {Origin : Type 0} (after : Option (List ℕ)) (reply : Reply) (old mid new : World Origin) → IsPlace (Listing after) → IsPlace (listed_place reply)
    → Met (Ask (requests.List after)) (Ok reply) old mid → ahead_of_client new ≤ ahead_of_client mid → distance (listed_place reply) new < distance (Listing after) old
near_list after reply old mid new place form h more =
    let before = met_ahead (Ask (requests.List after)) (Ok reply) old mid h in
    let most : ahead_of_client new ≤ ahead_of_client old = omega (arith, before, more) in
    let bytes : times (ahead_of_client new) (suc (wide 32)) ≤ times (ahead_of_client old) (suc (wide 32)) = mono_times (ahead_of_client new) (ahead_of_client old) (suc (wide 32)) most in
    let left : left_at (listed_place reply) < left_at (Listing after) = listed_left after reply old mid place form h in
    omega (arith, bytes, left)

-- what follows a reply to a list is nearer
pub near_next : {Origin : Type 0} (after : Option (List ℕ)) (reply : Reply) (old mid new : World Origin) (result : Result (Option Place) Cause) → IsPlace (Listing after)
    → Met (Ask (requests.List after)) (Ok reply) old mid → ahead_of_client new ≤ ahead_of_client mid → IfOk result (λ next. next ≡ Some (listed_place reply)) → IfOk result (λ next. IfSome next IsPlace)
    → IfOk result (λ next. IfSome next (λ p. distance p new < distance (Listing after) old))
near_next after reply old mid new (Err cause) place h more at form = tt
near_next after reply old mid new (Ok next) place h more at form =
    let listed : IsPlace (listed_place reply) = subst (λ (n : Option Place). IfSome n IsPlace) at form in
    subst (λ (n : Option Place). IfSome n (λ p. distance p new < distance (Listing after) old)) (sym at) (near_list after reply old mid new place listed h more)

-- ---- the form of the next place

pub fresh_form : (next : Option Place) → IsFresh next → IfSome next IsPlace
fresh_form None fresh = tt
fresh_form (Some Waiting) fresh = tt
fresh_form (Some (Listing None)) fresh = tt
fresh_form (Some (Listing (Some name))) fresh = absurd fresh

pub next_form : (heard : Heard) (next : Option Place) → IsNext heard next → IfSome next IsPlace
next_form (Line line) next fresh = fresh_form next fresh
next_form TooLong next fresh = fresh_form next fresh
next_form (Stopped stop) next none = rw none tt
