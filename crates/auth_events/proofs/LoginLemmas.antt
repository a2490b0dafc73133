-- When a login stands: by one of what was said, and after one thing more.
use Rattle.std.proofs.Common.{◌≡◌, ℕ, Bool, true, false, ◌&&◌, ◌||◌, not, ◌==◌, ◌≢◌, List, [], ◌∷◌, ◌++◌, map, append-nil, refl, ap, ◌∙◌}
use Rattle.std.specs.Prelude.{IsTrue, cond, filter}
use Rattle.std.proofs.lemmas.Bool.{and_from, and_parts, eq-eqb, ne_eqb}
use Rattle.std.proofs.lemmas.List.{map-append}
use Rattle.std.proofs.lemmas.List.Elements.{filter-append}
use Rattle.std.proofs.lemmas.List.Folds.{list_all-append}
use Rattle.auth_events.specs.Login.{HasLogin, ends_login, gives_login, lasts, login_in, login_stands, login_then, said_by, talk_of}
use Rattle.auth_events.specs.declared.entry.Entry.{Entry}
use Rattle.auth_events.specs.declared.reply.Reply.{Reply}
use Rattle.auth_events.specs.declared.request.Request.{Request}

-- ---- by one of what was said

either : (first rest : Bool) → rest ≡ true → (first || rest) ≡ true
either true rest is = refl
either false rest is = is

has_at : (before : List (Request × Reply)) (login : Request × Reply) (after : List (Request × Reply)) → IsTrue (gives_login login) → IsTrue (lasts after) → login_in (before ++ login ∷ after) ≡ true
has_at [] login after gives stays = ap (λ b. b || login_in after) (and_from (gives_login login) (lasts after) gives stays)
has_at (said ∷ before) login after gives stays =
    either (gives_login said && lasts (before ++ login ∷ after)) (login_in (before ++ login ∷ after)) (has_at before login after gives stays)

pub has : (talk : List (Request × Reply)) → HasLogin talk → login_in talk ≡ true
has talk h = ap login_in h.is ∙ has_at h.before h.login h.after h.gives h.stays

found_by : (test : Bool) (said : Request × Reply) (more : List (Request × Reply)) → (gives_login said && lasts more) ≡ test → (login_in more ≡ true → HasLogin more) → (test || login_in more) ≡ true → HasLogin (said ∷ more)
found_by true said more is later stands =
    let parts = and_parts (gives_login said) (lasts more) is in
    record { before = []; login = said; after = more; is = refl; gives = parts.0; stays = parts.1 }
found_by false said more is later stands =
    let h = later stands in
    record { before = said ∷ h.before; login = h.login; after = h.after; is = ap (λ t. said ∷ t) h.is; gives = h.gives; stays = h.stays }

pub found : (talk : List (Request × Reply)) → login_in talk ≡ true → HasLogin talk
found [] stands = absurd (cc)
found (said ∷ more) stands = found_by (gives_login said && lasts more) said more refl (found more) stands

-- ---- after one thing more

alone : (gives ends : Bool) → ((gives && true) || false) ≡ (gives || (false && not ends))
alone true ends = refl
alone false ends = refl

assoc : (a b e : Bool) → (a && (b && (e && true))) ≡ ((a && b) && e)
assoc false b e = refl
assoc true false e = refl
assoc true true true = refl
assoc true true false = refl

behind : (p gives stood e : Bool) → ((p && e) || (gives || (stood && e))) ≡ (gives || ((p || stood) && e))
behind false gives stood e = refl
behind true true stood true = refl
behind true false stood true = refl
behind true true stood false = refl
behind true false true false = refl
behind true false false false = refl

pub then_stands : (talk : List (Request × Reply)) (said : Request × Reply) → login_in (talk ++ said ∷ []) ≡ login_then (login_in talk) said
then_stands [] said = alone (gives_login said) (ends_login said)
then_stands (first ∷ talk) said =
    ap (λ all. (gives_login first && all) || login_in (talk ++ said ∷ [])) (list_all-append (λ s. not (ends_login s)) talk (said ∷ []))
    ∙ ap (λ b. (gives_login first && (lasts talk && (not (ends_login said) && true))) || b) (then_stands talk said)
    ∙ ap (λ b. b || login_then (login_in talk) said) (assoc (gives_login first) (lasts talk) (not (ends_login said)))
    ∙ behind (gives_login first && lasts talk) (gives_login said) (login_in talk) (not (ends_login said))

-- ---- in a history

own : (sid : ℕ) (entry : Entry) (test : Bool) → (entry.sid == sid) ≡ test → talk_of sid (entry ∷ []) ≡ map said_by (cond test (entry ∷ []) [])
own sid entry test is = ap (λ t. map said_by (cond t (entry ∷ []) [])) is

talk_grown : (sid : ℕ) (entries : List Entry) (entry : Entry) → talk_of sid (entries ++ entry ∷ []) ≡ talk_of sid entries ++ talk_of sid (entry ∷ [])
talk_grown sid entries entry =
    ap (map said_by) (filter-append (λ e. e.sid == sid) entries (entry ∷ []))
    ∙ map-append said_by (filter (λ e. e.sid == sid) entries) (filter (λ e. e.sid == sid) (entry ∷ []))

pub by_its_own : (sid : ℕ) (entries : List Entry) (entry : Entry) → entry.sid ≡ sid → login_stands sid (entries ++ entry ∷ []) ≡ login_then (login_stands sid entries) (said_by entry)
by_its_own sid entries entry is =
    ap login_in (talk_grown sid entries entry ∙ ap (λ t. talk_of sid entries ++ t) (own sid entry true (eq-eqb entry.sid sid is)))
    ∙ then_stands (talk_of sid entries) (said_by entry)

pub by_others : (sid : ℕ) (entries : List Entry) (entry : Entry) → entry.sid ≢ sid → login_stands sid (entries ++ entry ∷ []) ≡ login_stands sid entries
by_others sid entries entry other =
    ap login_in (talk_grown sid entries entry ∙ ap (λ t. talk_of sid entries ++ t) (own sid entry false (ne_eqb entry.sid sid other)) ∙ append-nil (talk_of sid entries))
