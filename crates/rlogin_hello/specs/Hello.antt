-- What a client of rlogin sends first (RFC 1282, on how a connection is established): four texts, each ended by a zero byte.
-- The first is empty, the second names the client's user, the third the server's user, and the fourth the terminal and its
-- speed. In this project's profile each of the last three has at most 256 bytes, and the third is NAME@HOST.
use Rattle.std.specs.Prelude.{ℕ, ◌==◌, nat_lt, List, [], ◌∷◌, ◌++◌, length, Option, Some, None, if◌then◌else◌}
use Rattle.fw_types.specs.declared.dest.Dest.{Dest}
use Rattle.fw_types.specs.declared.host.Host.{Host}
use Rattle.rlogin_hello.specs.ServerUser.{UserAt, user_at}
use Rattle.rlogin_hello.specs.declared.step.HelloStep.{HelloStep}
use Rattle.rlogin_hello.specs.declared.step.HelloStep.TheVariants.{More, Ready, Bad}

-- a text up to its first zero byte, and what follows that byte, if there is one
pub record ZeroCut : Type 0 where
  pub front : List ℕ
  pub rest : Option (List ℕ)

-- a byte before such a text
abbrev pub after_byte : ℕ → ZeroCut → ZeroCut
after_byte b cut = record { front = b ∷ cut.front; rest = cut.rest }

abbrev pub cut_at_zero : List ℕ → ZeroCut
cut_at_zero [] = record { front = []; rest = None }
cut_at_zero (b ∷ text) = if b == 0 then record { front = []; rest = Some text } else after_byte b (cut_at_zero text)

-- a hello, and what follows it
pub record HelloText : Type 0 where
  pub client : List ℕ
  pub user : List ℕ
  pub host : Host
  pub terminal : List ℕ
  pub rest : List ℕ

-- what a text begins with: a hello, or none, or not enough has come to tell
pub data HelloReading : Type 0 where
  Unended : HelloReading
  Whole : (hello : HelloText) → HelloReading
  NoHello : HelloReading

-- the most bytes that a text of a hello has
abbrev pub longest : ℕ
longest = 256

-- one text of a hello, and what it and the bytes after its zero byte are read as
abbrev pub after_text : (List ℕ → List ℕ → HelloReading) → List ℕ → Option (List ℕ) → HelloReading
after_text then_read text None = Unended
after_text then_read text (Some rest) = then_read text rest

abbrev pub read_text : (List ℕ → List ℕ → HelloReading) → List ℕ → HelloReading
read_text then_read bytes =
    if nat_lt longest (length (cut_at_zero bytes).front) then NoHello
    else after_text then_read (cut_at_zero bytes).front (cut_at_zero bytes).rest

-- all texts are there: a hello where the third names a user at a host
abbrev pub hello_with : List ℕ → Option UserAt → List ℕ → List ℕ → HelloReading
hello_with client None terminal rest = NoHello
hello_with client (Some at) terminal rest = Whole (record { client = client; user = at.user; host = at.host; terminal = terminal; rest = rest })

abbrev pub read_terminal : List ℕ → List ℕ → List ℕ → HelloReading
read_terminal client server = read_text (λ terminal rest. hello_with client (user_at server) terminal rest)

abbrev pub read_server : List ℕ → List ℕ → HelloReading
read_server client = read_text (read_terminal client)

abbrev pub read_client : List ℕ → HelloReading
read_client = read_text read_server

-- the hello that a client's text begins with
unfoldable pub hello_of : List ℕ → HelloReading
hello_of [] = Unended
hello_of (b ∷ bytes) = if b == 0 then read_client bytes else NoHello

-- what is told of the bytes that have come
abbrev pub step_of : HelloReading → HelloStep
step_of Unended = More
step_of (Whole hello) = Ready
step_of NoHello = Bad

-- the client's user, once the hello is whole
abbrev pub client_in : HelloReading → List ℕ
client_in (Whole hello) = hello.client
client_in _ = []

-- the server's user without its host, once the hello is whole
abbrev pub user_in : HelloReading → List ℕ
user_in (Whole hello) = hello.user
user_in _ = []

-- the terminal and its speed, once the hello is whole
abbrev pub terminal_in : HelloReading → List ℕ
terminal_in (Whole hello) = hello.terminal
terminal_in _ = []

-- the port of rlogin
abbrev pub login_port : ℕ
login_port = 513

-- where the client wants to go, once the hello is whole
abbrev pub dest_in : HelloReading → Option Dest
dest_in (Whole hello) = Some (record { host = hello.host; port = login_port })
dest_in _ = None

-- three texts as they are sent in a hello
abbrev pub hello_text : List ℕ → List ℕ → List ℕ → List ℕ
hello_text client user terminal = 0 ∷ (client ++ 0 ∷ (user ++ 0 ∷ (terminal ++ 0 ∷ [])))

-- the hello that a server is given, once the client's is whole: its user is the name alone
abbrev pub handed_on : HelloReading → List ℕ
handed_on (Whole hello) = hello_text hello.client hello.user hello.terminal
handed_on _ = []
