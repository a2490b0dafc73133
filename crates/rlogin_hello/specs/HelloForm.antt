-- The form of a hello, said of whole texts.
use Rattle.std.specs.Prelude.{◌≡◌, ◌≢◌, ℕ, ◌<◌, ◌≤◌, Bool, false, ◌==◌, List, ◌∷◌, ◌++◌, length, None}
use Rattle.std.specs.List.{list_any}
use Rattle.rlogin_hello.specs.Hello.{HelloText, hello_text, longest}
use Rattle.rlogin_hello.specs.ServerUser.{NamesUser, user_at}

abbrev pub is_zero : ℕ → Bool
is_zero b = b == 0

-- a text of a hello: at most 256 bytes, none of them zero
pub record IsText (text : List ℕ) : Type 0 where
  pub plain : list_any is_zero text ≡ false
  pub short : length text ≤ longest

-- a text is this hello and what follows it
pub record IsHello (text : List ℕ) (hello : HelloText) : Type 0 where
  pub server : List ℕ
  pub whole : text ≡ hello_text hello.client server hello.terminal ++ hello.rest
  pub client : IsText hello.client
  pub server_text : IsText server
  pub terminal : IsText hello.terminal
  pub names : NamesUser server (record { user = hello.user; host = hello.host })

-- more than 256 bytes without a zero byte
pub record IsTooLong (text : List ℕ) : Type 0 where
  pub front : List ℕ
  pub rest : List ℕ
  pub whole : text ≡ front ++ rest
  pub plain : list_any is_zero front ≡ false
  pub long : longest < length front

-- how a text shows that no hello begins it
pub data ShowsNoHello : List ℕ → Type 0 where
  -- the first byte isn't zero
  FirstByte : (byte : ℕ) (rest : List ℕ) → byte ≢ 0 → ShowsNoHello (byte ∷ rest)
  -- the client's user is too long
  LongClient : (text : List ℕ) → IsTooLong text → ShowsNoHello (0 ∷ text)
  -- the server's user is
  LongServer : (client text : List ℕ) → IsText client → IsTooLong text → ShowsNoHello (0 ∷ (client ++ 0 ∷ text))
  -- the terminal is
  LongTerminal : (client server text : List ℕ) → IsText client → IsText server → IsTooLong text → ShowsNoHello (0 ∷ (client ++ 0 ∷ (server ++ 0 ∷ text)))
  -- all texts have come, and the server's user is no name at a host
  NoUser : (client server terminal rest : List ℕ) → IsText client → IsText server → IsText terminal →
      user_at server ≡ None → ShowsNoHello (0 ∷ (client ++ 0 ∷ (server ++ 0 ∷ (terminal ++ 0 ∷ rest))))
