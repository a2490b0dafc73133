-- Which texts begin with a hello, and which show that none begins them.
use Rattle.std.proofs.Common.{◌≡◌, ℕ, zero, suc, ◌+◌, ◌-◌, ◌≤◌, ◌==◌, true, List, [], ◌∷◌, ◌++◌, length, take, refl, sym, ap, ◌∙◌, subst, append_assoc, arith, length-append, ◌⊎◌, inl, inr}
use Rattle.std.specs.Prelude.{Option, Some, None, ◌↔◌}
use Rattle.std.proofs.lemmas.Bool.{cases_eq, ne_eqb}
use Rattle.rlogin_hello.specs.Hello.{HelloReading, HelloText, NoHello, Unended, Whole, hello_of, hello_text, hello_with, read_client, read_server, read_terminal, read_text}
use Rattle.rlogin_hello.specs.HelloForm.{FirstByte, IsHello, IsText, IsTooLong, LongClient, LongServer, LongTerminal, NoUser, ShowsNoHello}
use Rattle.rlogin_hello.specs.ServerUser.{UserAt, user_at}
use Rattle.rlogin_hello.proofs.ReadingLemmas.{IsEnded, hello-nothing, hello-other, hello-zero, read-long, read-plain, read-zero, text_cases}
use Rattle.rlogin_hello.proofs.UserLemmas.{names_user, user_named}

-- a hello's bytes and what follows them
abbrev spelled : List ℕ → List ℕ → List ℕ → List ℕ → List ℕ
spelled c s t rest = 0 ∷ (c ++ 0 ∷ (s ++ 0 ∷ (t ++ 0 ∷ rest)))

spelled-append : (c s t rest : List ℕ) → hello_text c s t ++ rest ≡ spelled c s t rest
spelled-append c s t rest =
    ap (λ (x : List ℕ). 0 ∷ x) (append_assoc c (0 ∷ (s ++ 0 ∷ (t ++ 0 ∷ []))) rest)
    ∙ ap (λ (x : List ℕ). 0 ∷ (c ++ 0 ∷ x)) (append_assoc s (0 ∷ (t ++ 0 ∷ [])) rest)
    ∙ ap (λ (x : List ℕ). 0 ∷ (c ++ 0 ∷ (s ++ 0 ∷ x))) (append_assoc t (0 ∷ []) rest)

spelled-more : (c s t rest more : List ℕ) → spelled c s t rest ++ more ≡ spelled c s t (rest ++ more)
spelled-more c s t rest more =
    ap (λ (x : List ℕ). 0 ∷ x) (append_assoc c (0 ∷ (s ++ 0 ∷ (t ++ 0 ∷ rest))) more)
    ∙ ap (λ (x : List ℕ). 0 ∷ (c ++ 0 ∷ x)) (append_assoc s (0 ∷ (t ++ 0 ∷ rest)) more)
    ∙ ap (λ (x : List ℕ). 0 ∷ (c ++ 0 ∷ (s ++ 0 ∷ x))) (append_assoc t (0 ∷ rest) more)

-- three texts and their zero bytes are read one after another
pub hello-spelled : (c s t rest : List ℕ) → IsText c → IsText s → IsText t → hello_of (spelled c s t rest) ≡ hello_with c (user_at s) t rest
hello-spelled c s t rest client server terminal =
    hello-zero 0 (c ++ 0 ∷ (s ++ 0 ∷ (t ++ 0 ∷ rest))) refl
    ∙ read-zero read_server c (s ++ 0 ∷ (t ++ 0 ∷ rest)) client
    ∙ read-zero (read_terminal c) s (t ++ 0 ∷ rest) server
    ∙ read-zero (λ x y. hello_with c (user_at s) x y) t rest terminal

pub reads_hello : (text : List ℕ) (hello : HelloText) → IsHello text hello → hello_of text ≡ Whole hello
reads_hello text hello is =
    let at : UserAt = record { user = hello.user; host = hello.host } in
    ap hello_of (is.whole ∙ spelled-append hello.client is.server hello.terminal hello.rest)
    ∙ hello-spelled hello.client is.server hello.terminal hello.rest is.client is.server_text is.terminal
    ∙ ap (λ (u : Option UserAt). hello_with hello.client u hello.terminal hello.rest) (user_named is.server at is.names)

pub shows_none : (text : List ℕ) → ShowsNoHello text → hello_of text ≡ NoHello
shows_none text (FirstByte byte rest other) = hello-other byte rest (ne_eqb byte 0 other)
shows_none text (LongClient rest is) = hello-zero 0 rest refl ∙ read-long read_server rest is
shows_none text (LongServer client rest plain is) =
    hello-zero 0 (client ++ 0 ∷ rest) refl ∙ read-zero read_server client rest plain ∙ read-long (read_terminal client) rest is
shows_none text (LongTerminal client server rest plain other is) =
    hello-zero 0 (client ++ 0 ∷ (server ++ 0 ∷ rest)) refl ∙ read-zero read_server client (server ++ 0 ∷ rest) plain
    ∙ read-zero (read_terminal client) server rest other
    ∙ read-long (λ x y. hello_with client (user_at server) x y) rest is
shows_none text (NoUser client server terminal rest plain other last none) =
    hello-spelled client server terminal rest plain other last
    ∙ ap (λ (u : Option UserAt). hello_with client u terminal rest) none

-- How a text is read: one of the two, or it goes on.
record Reads (text : List ℕ) (read : HelloReading) : Type 0 where
  whole : (hello : HelloText) → read ≡ Whole hello → IsHello text hello
  none : read ≡ NoHello → ShowsNoHello text

unended : (text : List ℕ) → Reads text Unended
unended text = record { whole = λ hello e. absurd (cc); none = λ e. absurd (cc) }

shown : (text : List ℕ) → ShowsNoHello text → Reads text NoHello
shown text shows = record { whole = λ hello e. absurd (cc); none = λ e. shows }

with_user : (text c s t rest : List ℕ) (named : Option UserAt) → text ≡ spelled c s t rest → IsText c → IsText s → IsText t → user_at s ≡ named → Reads text (hello_with c named t rest)
with_user text c s t rest None is client server terminal none =
    let P : List ℕ → Type 0 = λ (x : List ℕ). ShowsNoHello x in
    shown text (subst P (sym is) (NoUser c s t rest client server terminal none))
with_user text c s t rest (Some at) is client server terminal some =
    let made : HelloText = record { client = c; user = at.user; host = at.host; terminal = t; rest = rest } in
    record {
      whole = λ (hello : HelloText) (e : Whole made ≡ Whole hello).
          let same : made ≡ hello = cc in
          let P : HelloText → Type 0 = λ (h : HelloText). IsHello text h in
          subst P same (record {
            server = s;
            whole = is ∙ sym (spelled-append c s t rest);
            client = client;
            server_text = server;
            terminal = terminal;
            names = names_user s at some;
          });
      none = λ e. absurd (cc);
    }

abbrev last_read : List ℕ → List ℕ → List ℕ → List ℕ → HelloReading
last_read c s x y = hello_with c (user_at s) x y

reads_last : (text c s bytes : List ℕ) → text ≡ 0 ∷ (c ++ 0 ∷ (s ++ 0 ∷ bytes)) → IsText c → IsText s → IsTooLong bytes ⊎ (IsText bytes ⊎ IsEnded bytes) → Reads text (read_text (last_read c s) bytes)
reads_last text c s bytes is client server (inl long) =
    let P : List ℕ → Type 0 = λ (x : List ℕ). ShowsNoHello x in
    rw (read-long (last_read c s) bytes long) (shown text (subst P (sym is) (LongTerminal c s bytes client server long)))
reads_last text c s bytes is client server (inr (inl plain)) = rw (read-plain (last_read c s) bytes plain) (unended text)
reads_last text c s bytes is client server (inr (inr e)) =
    let read : read_text (last_read c s) bytes ≡ last_read c s e.text e.rest = ap (read_text (last_read c s)) e.whole ∙ read-zero (last_read c s) e.text e.rest e.is in
    let P : HelloReading → Type 0 = λ (r : HelloReading). Reads text r in
    subst P (sym read)
    (with_user text c s e.text e.rest (user_at s) (is ∙ ap (λ (x : List ℕ). 0 ∷ (c ++ 0 ∷ (s ++ 0 ∷ x))) e.whole) client server e.is refl)

reads_server : (text c bytes : List ℕ) → text ≡ 0 ∷ (c ++ 0 ∷ bytes) → IsText c → IsTooLong bytes ⊎ (IsText bytes ⊎ IsEnded bytes) → Reads text (read_server c bytes)
reads_server text c bytes is client (inl long) =
    let P : List ℕ → Type 0 = λ (x : List ℕ). ShowsNoHello x in
    rw (read-long (read_terminal c) bytes long) (shown text (subst P (sym is) (LongServer c bytes client long)))
reads_server text c bytes is client (inr (inl plain)) = rw (read-plain (read_terminal c) bytes plain) (unended text)
reads_server text c bytes is client (inr (inr e)) =
    let read : read_server c bytes ≡ read_terminal c e.text e.rest = ap (read_server c) e.whole ∙ read-zero (read_terminal c) e.text e.rest e.is in
    let P : HelloReading → Type 0 = λ (r : HelloReading). Reads text r in
    subst P (sym read)
    (reads_last text c e.text e.rest (is ∙ ap (λ (x : List ℕ). 0 ∷ (c ++ 0 ∷ x)) e.whole) client e.is (text_cases e.rest))

reads_client : (text bytes : List ℕ) → text ≡ 0 ∷ bytes → IsTooLong bytes ⊎ (IsText bytes ⊎ IsEnded bytes) → Reads text (read_client bytes)
reads_client text bytes is (inl long) =
    let P : List ℕ → Type 0 = λ (x : List ℕ). ShowsNoHello x in
    rw (read-long read_server bytes long) (shown text (subst P (sym is) (LongClient bytes long)))
reads_client text bytes is (inr (inl plain)) = rw (read-plain read_server bytes plain) (unended text)
reads_client text bytes is (inr (inr e)) =
    let read : read_client bytes ≡ read_server e.text e.rest = ap read_client e.whole ∙ read-zero read_server e.text e.rest e.is in
    let P : HelloReading → Type 0 = λ (r : HelloReading). Reads text r in
    subst P (sym read)
    (reads_server text e.text e.rest (is ∙ ap (λ (x : List ℕ). 0 ∷ x) e.whole) e.is (text_cases e.rest))

reads_first : (b : ℕ) (bytes : List ℕ) → (b ≡ 0) ⊎ (b ≡ 0 → ⊥) → Reads (b ∷ bytes) (hello_of (b ∷ bytes))
reads_first b bytes (inl is) =
    let P : HelloReading → Type 0 = λ (r : HelloReading). Reads (b ∷ bytes) r in
    let test : (b == 0) ≡ true = ap (λ (x : ℕ). x == 0) is in
    subst P (sym (hello-zero b bytes test)) (reads_client (b ∷ bytes) bytes (ap (λ (x : ℕ). x ∷ bytes) is) (text_cases bytes))
reads_first b bytes (inr other) =
    let P : HelloReading → Type 0 = λ (r : HelloReading). Reads (b ∷ bytes) r in
    subst P (sym (hello-other b bytes (ne_eqb b 0 other))) (shown (b ∷ bytes) (FirstByte b bytes other))

reads : (text : List ℕ) → Reads text (hello_of text)
reads [] = let P : HelloReading → Type 0 = λ (r : HelloReading). Reads [] r in subst P (sym hello-nothing) (unended [])
reads (b ∷ bytes) = reads_first b bytes (cases_eq b 0)

pub whole_exactly : (text : List ℕ) (hello : HelloText) → (hello_of text ≡ Whole hello) ↔ IsHello text hello
whole_exactly text hello = let r = reads text in (λ e. r.whole hello e, λ is. reads_hello text hello is)

pub none_exactly : (text : List ℕ) → (hello_of text ≡ NoHello) ↔ ShowsNoHello text
none_exactly text = let r = reads text in (λ e. r.none e, λ shows. shows_none text shows)

long_more : (text more : List ℕ) → IsTooLong text → IsTooLong (text ++ more)
long_more text more is = record {
  front = is.front;
  rest = is.rest ++ more;
  whole = ap (λ (x : List ℕ). x ++ more) is.whole ∙ append_assoc is.front is.rest more;
  plain = is.plain;
  long = is.long;
}

shows_more : (text more : List ℕ) → ShowsNoHello text → hello_of (text ++ more) ≡ NoHello
shows_more text more (FirstByte byte rest other) = shows_none (byte ∷ (rest ++ more)) (FirstByte byte (rest ++ more) other)
shows_more text more (LongClient rest is) = shows_none (0 ∷ (rest ++ more)) (LongClient (rest ++ more) (long_more rest more is))
shows_more text more (LongServer client rest plain is) =
    ap (λ (x : List ℕ). hello_of (0 ∷ x)) (append_assoc client (0 ∷ rest) more)
    ∙ shows_none (0 ∷ (client ++ 0 ∷ (rest ++ more))) (LongServer client (rest ++ more) plain (long_more rest more is))
shows_more text more (LongTerminal client server rest plain other is) =
    ap (λ (x : List ℕ). hello_of (0 ∷ x)) (append_assoc client (0 ∷ (server ++ 0 ∷ rest)) more)
    ∙ ap (λ (x : List ℕ). hello_of (0 ∷ (client ++ 0 ∷ x))) (append_assoc server (0 ∷ rest) more)
    ∙ shows_none (0 ∷ (client ++ 0 ∷ (server ++ 0 ∷ (rest ++ more)))) (LongTerminal client server (rest ++ more) plain other (long_more rest more is))
shows_more text more (NoUser client server terminal rest plain other last none) =
    ap hello_of (spelled-more client server terminal rest more)
    ∙ shows_none (spelled client server terminal (rest ++ more)) (NoUser client server terminal (rest ++ more) plain other last none)

pub stays_none : (text more : List ℕ) → hello_of text ≡ NoHello → hello_of (text ++ more) ≡ NoHello
stays_none text more e = let r = reads text in shows_more text more (r.none e)

-- a hello with other bytes after it
abbrev with_rest : HelloText → List ℕ → HelloText
with_rest hello rest = record { client = hello.client; user = hello.user; host = hello.host; terminal = hello.terminal; rest = rest }

other_rest : (text other : List ℕ) (hello : HelloText) (rest : List ℕ) (is : IsHello text hello) → other ≡ hello_text hello.client is.server hello.terminal ++ rest
    → IsHello other (with_rest hello rest)
other_rest text other hello rest is whole = record {
  server = is.server;
  whole = whole;
  client = is.client;
  server_text = is.server_text;
  terminal = is.terminal;
  names = is.names;
}

pub stays : (text more : List ℕ) (hello : HelloText) → hello_of text ≡ Whole hello → hello_of (text ++ more) ≡ Whole (with_rest hello (hello.rest ++ more))
stays text more hello e =
    let r = reads text in
    let is : IsHello text hello = r.whole hello e in
    let front : List ℕ = hello_text hello.client is.server hello.terminal in
    let whole : text ++ more ≡ front ++ (hello.rest ++ more) = ap (λ (x : List ℕ). x ++ more) is.whole ∙ append_assoc front hello.rest more in
    reads_hello (text ++ more) (with_rest hello (hello.rest ++ more)) (other_rest text (text ++ more) hello (hello.rest ++ more) is whole)

-- a front of two lists that is no shorter than the first
take_into : (xs ys : List ℕ) (n : ℕ) → length xs ≤ n → take n (xs ++ ys) ≡ xs ++ take (n - length xs) ys
take_into [] ys n within = ap (λ (m : ℕ). take m ys) (let same : n ≡ n - 0 = omega (arith) in same)
take_into (x ∷ xs) ys zero within = absurd (omega (arith, within))
take_into (x ∷ xs) ys (suc n) within =
    let same : n - length xs ≡ suc n - suc (length xs) = omega (arith) in
    ap (λ (z : List ℕ). x ∷ z) (take_into xs ys n (omega (arith, within)) ∙ ap (λ (m : ℕ). xs ++ take m ys) same)

take_front : (xs : List ℕ) (b : ℕ) → take (length xs) (xs ++ b ∷ []) ≡ xs
take_front [] b = refl
take_front (x ∷ xs) b = ap (λ (z : List ℕ). x ∷ z) (take_front xs b)

-- bytes after a hello were there before its last byte, or there are none
prompt_by : (text : List ℕ) (byte : ℕ) (hello : HelloText) (rest : List ℕ) → hello.rest ≡ rest → IsHello (text ++ byte ∷ []) hello → hello_of text ≡ Unended → rest ≡ []
prompt_by text byte hello [] same is going = refl
prompt_by text byte hello (b ∷ rest) same is going =
    let front : List ℕ = hello_text hello.client is.server hello.terminal in
    let all : text ++ byte ∷ [] ≡ front ++ (b ∷ rest) = is.whole ∙ ap (λ (x : List ℕ). front ++ x) same in
    let counts : length text + 1 ≡ length front + suc (length rest) = sym (length-append text (byte ∷ [])) ∙ ap length all ∙ length-append front (b ∷ rest) in
    let left : List ℕ = take (length text - length front) (b ∷ rest) in
    let begins : text ≡ front ++ left =
    sym (take_front text byte) ∙ ap (λ (x : List ℕ). take (length text) x) all ∙ take_into front (b ∷ rest) (length text) (omega (arith, counts)) in
    let whole : hello_of text ≡ Whole (with_rest hello left) = reads_hello text (with_rest hello left) (other_rest (text ++ byte ∷ []) text hello left is begins) in
    absurd (cc)

pub prompt : (text : List ℕ) (byte : ℕ) (hello : HelloText) → hello_of text ≡ Unended → hello_of (text ++ byte ∷ []) ≡ Whole hello → hello.rest ≡ []
prompt text byte hello going e = let r = reads (text ++ byte ∷ []) in prompt_by text byte hello hello.rest refl (r.whole hello e) going
