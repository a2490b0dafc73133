-- What a reader of a hello keeps, and what it keeps after one byte more.
-- No public clause cites these: they say what private functions answer.
use Rattle.std.specs.Prelude.{◌≡◌, ℕ, ◌==◌, nat_lt, List, [], ◌∷◌, ◌++◌, length, Option, Some, None, IsSome, if◌then◌else◌}
use Rattle.rlogin_hello.specs.Hello.{HelloReading, NoHello, hello_of, hello_with, longest, read_client, read_server, read_terminal}
use Rattle.rlogin_hello.specs.HelloForm.{IsText}
use Rattle.rlogin_hello.specs.ServerUser.{UserAt, user_at}
use Rattle.rlogin_hello.specs.declared.stage.Heard.{Heard}
use Rattle.rlogin_hello.specs.declared.stage.Heard.TheVariants as heard
use Rattle.rlogin_hello.specs.declared.stage.Stage.{Stage}
use Rattle.rlogin_hello.specs.declared.step.HelloStep.{HelloStep}
use Rattle.rlogin_hello.specs.declared.step.HelloStep.TheVariants as steps
use Rattle.rlogin_hello.specs.declared.stage.Stage.TheVariants.{Start, Client, Server, Terminal, Ready, Bad}

pub record TextsView : Type 0 where
  pub stage : Stage
  pub client : List ℕ
  pub server : List ℕ
  pub terminal : List ℕ

-- what a byte does to a text
abbrev pub heard_at : List ℕ → ℕ → Heard
heard_at text b = if b == 0 then heard.Ended else if nat_lt (length text) longest then heard.More else heard.TooLong

-- the text after the byte
abbrev pub text_after : List ℕ → ℕ → List ℕ
text_after text b = if b == 0 then text else if nat_lt (length text) longest then text ++ b ∷ [] else text

abbrev pub stage_after : Heard → Stage → Stage → Stage
stage_after heard.More stay next = stay
stage_after heard.Ended stay next = next
stage_after heard.TooLong stay next = Bad

abbrev pub first_stage : ℕ → Stage
first_stage b = if b == 0 then Client else Bad

-- what is told of a hello at its stage
abbrev pub step_at : Stage → HelloStep
step_at Ready = steps.Ready
step_at Bad = steps.Bad
step_at _ = steps.More

abbrev pub last_stage : Option UserAt → Stage
last_stage (Some at) = Ready
last_stage None = Bad

abbrev pub view_after : Stage → TextsView → ℕ → TextsView
view_after Start v b = record { stage = first_stage b; client = v.client; server = v.server; terminal = v.terminal }
view_after Client v b =
    record { stage = stage_after (heard_at v.client b) Client Server; client = text_after v.client b; server = v.server; terminal = v.terminal }
view_after Server v b =
    record { stage = stage_after (heard_at v.server b) Server Terminal; client = v.client; server = text_after v.server b; terminal = v.terminal }
view_after Terminal v b = record {
  stage = stage_after (heard_at v.terminal b) Terminal (last_stage (user_at v.server));
  client = v.client;
  server = v.server;
  terminal = text_after v.terminal b;
}
view_after Ready v b = v
view_after Bad v b = v

-- a text, once the hello is whole
abbrev pub once_ready : Stage → List ℕ → List ℕ
once_ready Ready text = text
once_ready _ text = []

-- the server's user and its host, once the hello is whole
abbrev pub user_once_ready : Stage → List ℕ → Option UserAt
user_once_ready Ready server = user_at server
user_once_ready _ server = None

-- what the bytes that are kept and those after them are read as; `past` are bytes that came after the hello
abbrev pub read_on : Stage → TextsView → List ℕ → List ℕ → HelloReading
read_on Start v past rest = hello_of rest
read_on Client v past rest = read_client (v.client ++ rest)
read_on Server v past rest = read_server v.client (v.server ++ rest)
read_on Terminal v past rest = read_terminal v.client v.server (v.terminal ++ rest)
read_on Ready v past rest = hello_with v.client (user_at v.server) v.terminal (past ++ rest)
read_on Bad v past rest = NoHello

-- the texts that haven't begun are empty, and a hello that is whole names a user at a host
abbrev pub IsAtStage : Stage → TextsView → Type 0
IsAtStage Start v = (v.client ≡ []) × (v.server ≡ []) × (v.terminal ≡ [])
IsAtStage Client v = (v.server ≡ []) × (v.terminal ≡ [])
IsAtStage Server v = v.terminal ≡ []
IsAtStage Terminal v = Unit {0}
IsAtStage Ready v = IsSome (user_at v.server)
IsAtStage Bad v = Unit {0}

-- however the text goes on, it is read as what is kept and the rest are
pub record IsKept (fed : List ℕ) (v : TextsView) : Type 0 where
  pub past : List ℕ
  pub leads : (rest : List ℕ) → hello_of (fed ++ rest) ≡ read_on v.stage v past rest
  pub at : IsAtStage v.stage v
  pub client : IsText v.client
  pub server : IsText v.server
  pub terminal : IsText v.terminal
