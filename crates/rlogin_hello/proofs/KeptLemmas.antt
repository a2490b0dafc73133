-- What a reader of a hello keeps is enough to go on.
use Rattle.std.proofs.Common.{◌≡◌, ℕ, ◌==◌, Bool, true, false, List, [], ◌∷◌, ◌++◌, length, refl, sym, ap, ◌∙◌, append_assoc, append-nil, arith, subst}
use Rattle.std.specs.Prelude.{Option, Some, None, nat_lt, IsSome, if◌then◌else◌}
use Rattle.std.proofs.lemmas.Bool.{ltb-true, ltb-false, eqb-true}
use Rattle.rlogin_hello.specs.Hello.{HelloReading, NoHello, Unended, client_in, dest_in, handed_on, hello_of, hello_text, hello_with, login_port, longest, read_client, read_server, read_terminal, read_text, step_of, terminal_in, user_in}
use Rattle.rlogin_hello.specs.HelloForm.{IsText}
use Rattle.rlogin_hello.specs.ServerUser.{UserAt, user_at}
use Rattle.rlogin_hello.specs.Texts.{IsKept, TextsView, heard_at, last_stage, once_ready, stage_after, step_at, text_after, user_once_ready, view_after}
use Rattle.rlogin_hello.specs.declared.stage.Stage.{Stage}
use Rattle.rlogin_hello.specs.declared.stage.Stage.TheVariants.{Start, Client, Server, Terminal, Ready, Bad}
use Rattle.rlogin_hello.proofs.ReadingLemmas.{hello-nothing, hello-other, hello-zero, read-long, read-plain, read-zero, text_more, too_long}

abbrev at_stage : Stage → List ℕ → List ℕ → List ℕ → TextsView
at_stage stage client server terminal = record { stage = stage; client = client; server = server; terminal = terminal }

pub empty : IsText []
empty = record { plain = refl; short = omega (arith) }

pub kept_nothing : (fed : List ℕ) → fed ≡ [] → IsKept fed (at_stage Start [] [] [])
kept_nothing fed none = record {
  past = [];
  leads = λ rest. ap (λ (t : List ℕ). hello_of (t ++ rest)) none;
  at = (refl, refl, refl);
  client = empty;
  server = empty;
  terminal = empty;
}

-- the reading of the bytes and one more, by what is kept of the others
on : (fed : List ℕ) (b : ℕ) (rest : List ℕ) → hello_of ((fed ++ b ∷ []) ++ rest) ≡ hello_of (fed ++ (b ∷ rest))
on fed b rest = ap hello_of (append_assoc fed (b ∷ []) rest)

first : (fed c s t : List ℕ) (b : ℕ) (zero : Bool) → (b == 0) ≡ zero → IsKept fed (at_stage Start c s t) → IsKept (fed ++ b ∷ []) (at_stage (if zero then Client else Bad) c s t)
first fed c s t b true is kept = record {
  past = [];
  leads = λ rest. on fed b rest ∙ kept.leads (b ∷ rest) ∙ hello-zero b rest is ∙ ap (λ (x : List ℕ). read_client (x ++ rest)) (sym kept.at.0);
  at = (kept.at.1, kept.at.2);
  client = kept.client;
  server = kept.server;
  terminal = kept.terminal;
}
first fed c s t b false is kept = record {
  past = [];
  leads = λ rest. on fed b rest ∙ kept.leads (b ∷ rest) ∙ hello-other b rest is;
  at = tt;
  client = kept.client;
  server = kept.server;
  terminal = kept.terminal;
}

-- a byte of a text: the zero byte at its end, one more, and one too many
ended : (then_read : List ℕ → List ℕ → HelloReading) (text rest : List ℕ) (b : ℕ) → IsText text → (b == 0) ≡ true → read_text then_read (text ++ b ∷ rest) ≡ then_read text rest
ended then_read text rest b is zero = ap (λ (x : ℕ). read_text then_read (text ++ x ∷ rest)) (eqb-true b 0 zero) ∙ read-zero then_read text rest is

more : (then_read : List ℕ → List ℕ → HelloReading) (text rest : List ℕ) (b : ℕ) → read_text then_read (text ++ b ∷ rest) ≡ read_text then_read ((text ++ b ∷ []) ++ rest)
more then_read text rest b = ap (read_text then_read) (sym (append_assoc text (b ∷ []) rest))

over : (then_read : List ℕ → List ℕ → HelloReading) (text rest : List ℕ) (b : ℕ) → IsText text → (b == 0) ≡ false → nat_lt (length text) longest ≡ false → read_text then_read (text ++ b ∷ rest) ≡ NoHello
over then_read text rest b is other full = read-long then_read (text ++ b ∷ rest) (too_long text rest b is other (ltb-false (length text) longest full))

one_more : (text : List ℕ) (b : ℕ) → IsText text → (b == 0) ≡ false → nat_lt (length text) longest ≡ true → IsText (text ++ b ∷ [])
one_more text b is other less = text_more text b is other (ltb-true (length text) longest less)

client : (fed c s t : List ℕ) (b : ℕ) (zero less : Bool) → (b == 0) ≡ zero → nat_lt (length c) longest ≡ less → IsKept fed (at_stage Client c s t)
    → IsKept (fed ++ b ∷ []) (at_stage (if zero then Server else if less then Client else Bad) (if zero then c else if less then c ++ b ∷ [] else c) s t)
client fed c s t b true less is fits kept = record {
  past = [];
  leads = λ rest.
      on fed b rest ∙ kept.leads (b ∷ rest) ∙ ended read_server c rest b kept.client is ∙ ap (λ (x : List ℕ). read_server c (x ++ rest)) (sym kept.at.0);
  at = kept.at.1;
  client = kept.client;
  server = kept.server;
  terminal = kept.terminal;
}
client fed c s t b false true is fits kept = record {
  past = [];
  leads = λ rest. on fed b rest ∙ kept.leads (b ∷ rest) ∙ more read_server c rest b;
  at = kept.at;
  client = one_more c b kept.client is fits;
  server = kept.server;
  terminal = kept.terminal;
}
client fed c s t b false false is fits kept = record {
  past = [];
  leads = λ rest. on fed b rest ∙ kept.leads (b ∷ rest) ∙ over read_server c rest b kept.client is fits;
  at = tt;
  client = kept.client;
  server = kept.server;
  terminal = kept.terminal;
}

server : (fed c s t : List ℕ) (b : ℕ) (zero less : Bool) → (b == 0) ≡ zero → nat_lt (length s) longest ≡ less → IsKept fed (at_stage Server c s t)
    → IsKept (fed ++ b ∷ []) (at_stage (if zero then Terminal else if less then Server else Bad) c (if zero then s else if less then s ++ b ∷ [] else s) t)
server fed c s t b true less is fits kept = record {
  past = [];
  leads = λ rest.
      on fed b rest ∙ kept.leads (b ∷ rest) ∙ ended (read_terminal c) s rest b kept.server is ∙ ap (λ (x : List ℕ). read_terminal c s (x ++ rest)) (sym kept.at);
  at = tt;
  client = kept.client;
  server = kept.server;
  terminal = kept.terminal;
}
server fed c s t b false true is fits kept = record {
  past = [];
  leads = λ rest. on fed b rest ∙ kept.leads (b ∷ rest) ∙ more (read_terminal c) s rest b;
  at = kept.at;
  client = kept.client;
  server = one_more s b kept.server is fits;
  terminal = kept.terminal;
}
server fed c s t b false false is fits kept = record {
  past = [];
  leads = λ rest. on fed b rest ∙ kept.leads (b ∷ rest) ∙ over (read_terminal c) s rest b kept.server is fits;
  at = tt;
  client = kept.client;
  server = kept.server;
  terminal = kept.terminal;
}

abbrev last_read : List ℕ → List ℕ → List ℕ → List ℕ → HelloReading
last_read c s terminal rest = hello_with c (user_at s) terminal rest

-- the last zero byte
whole : (fed c s t : List ℕ) (b : ℕ) (named : Option UserAt) → (b == 0) ≡ true → user_at s ≡ named → IsKept fed (at_stage Terminal c s t)
    → IsKept (fed ++ b ∷ []) (at_stage (last_stage named) c s t)
whole fed c s t b (Some at) is named kept = record {
  past = [];
  leads = λ rest. on fed b rest ∙ kept.leads (b ∷ rest) ∙ ended (last_read c s) t rest b kept.terminal is;
  at = rw named refl;
  client = kept.client;
  server = kept.server;
  terminal = kept.terminal;
}
whole fed c s t b None is named kept = record {
  past = [];
  leads = λ rest. on fed b rest ∙ kept.leads (b ∷ rest) ∙ ended (last_read c s) t rest b kept.terminal is ∙ ap (λ (u : Option UserAt). hello_with c u t rest) named;
  at = tt;
  client = kept.client;
  server = kept.server;
  terminal = kept.terminal;
}

terminal : (fed c s t : List ℕ) (b : ℕ) (zero less : Bool) → (b == 0) ≡ zero → nat_lt (length t) longest ≡ less → IsKept fed (at_stage Terminal c s t)
    → IsKept (fed ++ b ∷ []) (at_stage (if zero then last_stage (user_at s) else if less then Terminal else Bad) c s (if zero then t else if less then t ++ b ∷ [] else t))
terminal fed c s t b true less is fits kept = whole fed c s t b (user_at s) is refl kept
terminal fed c s t b false true is fits kept = record {
  past = [];
  leads = λ rest. on fed b rest ∙ kept.leads (b ∷ rest) ∙ more (last_read c s) t rest b;
  at = tt;
  client = kept.client;
  server = kept.server;
  terminal = one_more t b kept.terminal is fits;
}
terminal fed c s t b false false is fits kept = record {
  past = [];
  leads = λ rest. on fed b rest ∙ kept.leads (b ∷ rest) ∙ over (last_read c s) t rest b kept.terminal is fits;
  at = tt;
  client = kept.client;
  server = kept.server;
  terminal = kept.terminal;
}

-- where the stage of a text goes
moved : (zero less : Bool) (text : List ℕ) (b : ℕ) (stay next : Stage) → (b == 0) ≡ zero → nat_lt (length text) longest ≡ less
    → stage_after (heard_at text b) stay next ≡ (if zero then next else if less then stay else Bad)
moved true less text b stay next is fits = rw is refl
moved false true text b stay next is fits = rw (is, fits) refl
moved false false text b stay next is fits = rw (is, fits) refl

at_each : (stage : Stage) (fed c s t : List ℕ) (b : ℕ) → IsKept fed (at_stage stage c s t) → IsKept (fed ++ b ∷ []) (view_after stage (at_stage stage c s t) b)
at_each Start fed c s t b kept = first fed c s t b (b == 0) refl kept
at_each Client fed c s t b kept =
    let less = nat_lt (length c) longest in
    let P : Stage → Type 0 = λ (stage : Stage). IsKept (fed ++ b ∷ []) (at_stage stage (text_after c b) s t) in
    subst P (sym (moved (b == 0) less c b Client Server refl refl)) (client fed c s t b (b == 0) less refl refl kept)
at_each Server fed c s t b kept =
    let less = nat_lt (length s) longest in
    let P : Stage → Type 0 = λ (stage : Stage). IsKept (fed ++ b ∷ []) (at_stage stage c (text_after s b) t) in
    subst P (sym (moved (b == 0) less s b Server Terminal refl refl)) (server fed c s t b (b == 0) less refl refl kept)
at_each Terminal fed c s t b kept =
    let less = nat_lt (length t) longest in
    let P : Stage → Type 0 = λ (stage : Stage). IsKept (fed ++ b ∷ []) (at_stage stage c s (text_after t b)) in
    subst P (sym (moved (b == 0) less t b Terminal (last_stage (user_at s)) refl refl)) (terminal fed c s t b (b == 0) less refl refl kept)
at_each Ready fed c s t b kept = record {
  past = kept.past ++ b ∷ [];
  leads = λ rest.
      on fed b rest ∙ kept.leads (b ∷ rest) ∙ ap (λ (x : List ℕ). hello_with c (user_at s) t x) (sym (append_assoc kept.past (b ∷ []) rest));
  at = kept.at;
  client = kept.client;
  server = kept.server;
  terminal = kept.terminal;
}
at_each Bad fed c s t b kept = record {
  past = [];
  leads = λ rest. on fed b rest ∙ kept.leads (b ∷ rest);
  at = tt;
  client = kept.client;
  server = kept.server;
  terminal = kept.terminal;
}

-- after one byte more
pub kept_after : (fed then_fed : List ℕ) (v next : TextsView) (b : ℕ) → IsKept fed v → then_fed ≡ fed ++ b ∷ [] → next ≡ view_after v.stage v b → IsKept then_fed next
kept_after fed then_fed v next b kept is goes = rw (is, goes) (at_each v.stage fed v.client v.server v.terminal b kept)

-- what the bytes are read as
abbrev read_at : Stage → List ℕ → Option UserAt → List ℕ → List ℕ → HelloReading
read_at Ready c at t past = hello_with c at t past
read_at Bad c at t past = NoHello
read_at _ c at t past = Unended

reads : (stage : Stage) (fed c s t : List ℕ) (kept : IsKept fed (at_stage stage c s t)) → hello_of (fed ++ []) ≡ read_at stage c (user_at s) t kept.past
reads Start fed c s t kept = kept.leads [] ∙ hello-nothing
reads Client fed c s t kept = kept.leads [] ∙ ap read_client (append-nil c) ∙ read-plain read_server c kept.client
reads Server fed c s t kept = kept.leads [] ∙ ap (read_server c) (append-nil s) ∙ read-plain (read_terminal c) s kept.server
reads Terminal fed c s t kept = kept.leads [] ∙ ap (read_terminal c s) (append-nil t) ∙ read-plain (last_read c s) t kept.terminal
reads Ready fed c s t kept = kept.leads [] ∙ ap (λ (x : List ℕ). hello_with c (user_at s) t x) (append-nil kept.past)
reads Bad fed c s t kept = kept.leads []

reading : (fed : List ℕ) (v : TextsView) (kept : IsKept fed v) → hello_of fed ≡ read_at v.stage v.client (user_at v.server) v.terminal kept.past
reading fed v kept = ap hello_of (sym (append-nil fed)) ∙ reads v.stage fed v.client v.server v.terminal kept

-- the user is named once the hello is whole
abbrev IsNamed : Stage → Option UserAt → Type 0
IsNamed Ready at = IsSome at
IsNamed _ at = Unit {0}

named : (stage : Stage) (fed c s t : List ℕ) → IsKept fed (at_stage stage c s t) → IsNamed stage (user_at s)
named Start fed c s t kept = tt
named Client fed c s t kept = tt
named Server fed c s t kept = tt
named Terminal fed c s t kept = tt
named Ready fed c s t kept = kept.at
named Bad fed c s t kept = tt

-- what is told of a hello whose server's user is this one
pub record TellsUser (c t : List ℕ) (at : UserAt) (read : HelloReading) : Type 0 where
  pub user : at.user ≡ user_in read
  pub dest : Some (record { host = at.host; port = login_port }) ≡ dest_in read
  pub handed : hello_text c at.user t ≡ handed_on read

pub record TellsNone (read : HelloReading) : Type 0 where
  pub user : [] ≡ user_in read
  pub dest : None ≡ dest_in read
  pub handed : [] ≡ handed_on read

-- what is told of a reading, by what is kept
pub record Tells (stage : Stage) (c s t : List ℕ) (read : HelloReading) : Type 0 where
  pub step : step_at stage ≡ step_of read
  pub client : once_ready stage c ≡ client_in read
  pub terminal : once_ready stage t ≡ terminal_in read
  pub some : (at : UserAt) → user_once_ready stage s ≡ Some at → TellsUser (once_ready stage c) (once_ready stage t) at read
  pub none : user_once_ready stage s ≡ None → TellsNone read

nothing_told : TellsNone Unended
nothing_told = record { user = refl; dest = refl; handed = refl }

nothing_told_of_none : TellsNone NoHello
nothing_told_of_none = record { user = refl; dest = refl; handed = refl }

tells_ready : (c s t past : List ℕ) (at : Option UserAt) → user_at s ≡ at → IsSome at → Tells Ready c s t (hello_with c at t past)
tells_ready c s t past None is some = absurd (cc)
tells_ready c s t past (Some at) is some =
    let read : HelloReading = hello_with c (Some at) t past in
    record {
      step = refl;
      client = refl;
      terminal = refl;
      some = λ (other : UserAt) (e : user_at s ≡ Some other).
          let same : at ≡ other = cc in
          let P : UserAt → Type 0 = λ (a : UserAt). TellsUser c t a read in
          subst P same (record { user = refl; dest = refl; handed = refl });
      none = λ (e : user_at s ≡ None). absurd (cc);
    }

tells_at : (stage : Stage) (c s t past : List ℕ) → IsNamed stage (user_at s) → Tells stage c s t (read_at stage c (user_at s) t past)
tells_at Start c s t past is = record { step = refl; client = refl; terminal = refl; some = λ at e. absurd (cc); none = λ e. nothing_told }
tells_at Client c s t past is = record { step = refl; client = refl; terminal = refl; some = λ at e. absurd (cc); none = λ e. nothing_told }
tells_at Server c s t past is = record { step = refl; client = refl; terminal = refl; some = λ at e. absurd (cc); none = λ e. nothing_told }
tells_at Terminal c s t past is = record { step = refl; client = refl; terminal = refl; some = λ at e. absurd (cc); none = λ e. nothing_told }
tells_at Ready c s t past is = tells_ready c s t past (user_at s) refl is
tells_at Bad c s t past is = record { step = refl; client = refl; terminal = refl; some = λ at e. absurd (cc); none = λ e. nothing_told_of_none }

pub tells : (fed : List ℕ) (v : TextsView) → IsKept fed v → Tells v.stage v.client v.server v.terminal (hello_of fed)
tells fed v kept =
    let P : HelloReading → Type 0 = λ (read : HelloReading). Tells v.stage v.client v.server v.terminal read in
    subst P (sym (reading fed v kept)) (tells_at v.stage v.client v.server v.terminal kept.past (named v.stage fed v.client v.server v.terminal kept))
