-- Runs of the machine from given records: what is asked, what is answered, and when the keeper is called.
use Rattle.std.specs.Prelude.{ℕ, suc, Bool, true, false, List, [], ◌∷◌, Some, None, codes}
use Rattle.auth_records.specs.Spelling.{Fields, OtpFields}
use Rattle.auth_records.specs.declared.record.Proto.TheVariants as protos
use Rattle.auth_records.specs.declared.record.Wiz.{Wiz}
use Rattle.auth_records.specs.declared.record.Wiz.TheVariants as wizards
use Rattle.auth_events.specs.declared.request.Request.{Request}
use Rattle.auth_events.specs.declared.request.Request.TheVariants.{Authenticate, Open, Response}
use Rattle.auth_machine.specs.Answer.{Answer}
use Rattle.auth_machine.specs.Policy.{PolicyView}
use Rattle.auth_machine.specs.State.{State, first_state}
use Rattle.auth_machine.specs.Step.{answer, keeps, next_state}

-- ---- runs

-- a request of a session at a moment, and whether the keeper keeps what it changes
pub record Ask : Type 0 where
  pub sid : ℕ
  pub at : ℕ
  pub request : Request
  pub kept : Bool

abbrev pub ask : ℕ → ℕ → Request → Ask
ask sid at request = record { sid = sid; at = at; request = request; kept = true }

-- the same while the keeper fails
abbrev pub failing : ℕ → ℕ → Request → Ask
failing sid at request = record { sid = sid; at = at; request = request; kept = false }

abbrev pub after_ask : PolicyView → State → ℕ → Ask → State
after_ask policy s place a = next_state policy s place a.sid a.at a.request a.kept

abbrev pub answers_from : PolicyView → State → ℕ → List Ask → List Answer
answers_from policy s place [] = []
answers_from policy s place (a ∷ asks) =
    answer policy s place a.sid a.at a.request a.kept ∷ answers_from policy (after_ask policy s place a) (suc place) asks

abbrev pub calls_from : PolicyView → State → ℕ → List Ask → List Bool
calls_from policy s place [] = []
calls_from policy s place (a ∷ asks) =
    keeps policy s place a.sid a.at a.request ∷ calls_from policy (after_ask policy s place a) (suc place) asks

abbrev pub state_from : PolicyView → State → ℕ → List Ask → State
state_from policy s place [] = s
state_from policy s place (a ∷ asks) = state_from policy (after_ask policy s place a) (suc place) asks

-- the answers, for which of the requests the keeper is called, and the state that is left
abbrev pub answers : PolicyView → List Fields → List Ask → List Answer
answers policy records asks = answers_from policy (first_state records) 0 asks

abbrev pub calls : PolicyView → List Fields → List Ask → List Bool
calls policy records asks = calls_from policy (first_state records) 0 asks

abbrev pub left : PolicyView → List Fields → List Ask → State
left policy records asks = state_from policy (first_state records) 0 asks

-- ---- policies

abbrev pub no_lines : PolicyView
no_lines = record { bad_sleep = None; no_bogus = false; operations = [] }

abbrev pub bad_sleep : ℕ → PolicyView
bad_sleep seconds = record no_lines { bad_sleep = Some seconds }

-- ---- records and requests

-- nobody's record: a name alone
abbrev pub bare : List ℕ → Fields
bare name = record { name = name; long = []; group = None; proto = protos.None; enabled = false; wiz = wizards.None; fails = 0; since = 0; last = 0; expires = 0; plain = None; otp = None }

abbrev pub salt : List ℕ
salt = 1 ∷ 2 ∷ 3 ∷ 4 ∷ 5 ∷ 6 ∷ 7 ∷ 8 ∷ []

-- the digests of `secret` and of `x`
abbrev pub secret : List ℕ
secret = 0x5e ∷ 0xbe ∷ 0x22 ∷ 0x94 ∷ 0xec ∷ 0xd0 ∷ 0xe0 ∷ 0xf0 ∷ 0x8e ∷ 0xab ∷ 0x76 ∷ 0x90 ∷ 0xd2 ∷ 0xa6 ∷ 0xee ∷ 0x69 ∷ []

abbrev pub other : List ℕ
other = 0x9d ∷ 0xd4 ∷ 0xe4 ∷ 0x61 ∷ 0x26 ∷ 0x8c ∷ 0x80 ∷ 0x34 ∷ 0xf5 ∷ 0xc8 ∷ 0x56 ∷ 0x4e ∷ 0x15 ∷ 0x5c ∷ 0x67 ∷ 0xa6 ∷ []

-- the digest of the salt and the digest of `secret`
abbrev pub salted : List ℕ
salted = 86 ∷ 68 ∷ 163 ∷ 9 ∷ 241 ∷ 89 ∷ 58 ∷ 189 ∷ 51 ∷ 194 ∷ 31 ∷ 155 ∷ 171 ∷ 90 ∷ 187 ∷ 102 ∷ []

-- who may log in with `secret`
abbrev pub with_secret : List ℕ → Fields
with_secret name = record (bare name) { proto = protos.Plain; enabled = true; plain = Some (record { salt = salt; hash = salted }) }

abbrev pub mjr : Fields
mjr = with_secret (codes "mjr")

-- one password is left: the seed is `test`, the phrase `This is a test.`
abbrev pub one_left : OtpFields
one_left = record { number = 1; word_seed = codes "test"; kept = 0x7965E05436F5029F }

abbrev pub last_word : ℕ
last_word = 0x9E876134D90499DD

abbrev pub otp1 : Fields
otp1 = record (bare (codes "otp1")) { proto = protos.Otp; enabled = true; otp = Some one_left }

abbrev pub in_group : List ℕ → Wiz → Fields → Fields
in_group group wiz f = record f { group = Some group; wiz = wiz }

abbrev pub opens : Request
opens = Open false

abbrev pub console : Request
console = Open true

abbrev pub names : List ℕ → Request
names name = Authenticate name

abbrev pub says : List ℕ → Request
says hash = Response hash None

abbrev pub says_word : ℕ → Request
says_word word = Response other (Some word)
