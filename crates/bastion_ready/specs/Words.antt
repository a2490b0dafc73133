-- The words of a server: `[OPTIONS] serve WORKERS SERVICE@PORT`, and more of these.
use Rattle.std.specs.Prelude.{ℕ, Bool, true, false, ◌*◌, ◌==◌, ◌||◌, nat_le, List, [], ◌∷◌, ◌++◌, length, flat_map, replicate, Option, Some, None, is_some, codes, if◌then◌else◌}
use Rattle.std.specs.List.{after_first, before_first, list_any}
use Rattle.std.specs.Str.{bytes_eq}
use Rattle.bastion.specs.Words.{PlaceNames, after_options, any_twice, default_table, places_in, word_or}
use Rattle.fw_types.specs.Number.{in_range, number_of}
use Rattle.fw_types.specs.Port.{numbered_port}
use Rattle.fwtk_serve.specs.RulesFor.{is_same_service}
use Rattle.gate_rules.specs.Service.{service_of}
use Rattle.gate_rules.specs.declared.service.Service.{Service}
use Rattle.gate_rules.specs.declared.service.Service.TheVariants.{Netacl, TnGw, FtpGw, PlugGw, Smap, Authsrv}

-- a service, and the port at which its clients come
abbrev pub Door : Type 0
Door = Service × ℕ

abbrev pub is_at : ℕ → Bool
is_at b = b == 64

-- the services whose clients a server may be for: the access wrapper has no sessions
abbrev pub is_for_server : Service → Bool
is_for_server (Netacl label) = false
is_for_server TnGw = true
is_for_server FtpGw = true
is_for_server (PlugGw port) = true
is_for_server Smap = true
is_for_server Authsrv = true

abbrev pub door_by : Option Service → Option ℕ → Option Door
door_by (Some service) (Some port) = if is_for_server service then Some (service, port) else None
door_by None port = None
door_by (Some service) None = None

-- the port behind an `@`: a decimal number from 1 to 65,535
abbrev pub port_in : List ℕ → Option ℕ
port_in word = numbered_port (after_first is_at word)

-- `SERVICE@PORT`
abbrev pub door_in : List ℕ → Option Door
door_in word = door_by (service_of (before_first is_at word)) (port_in word)

abbrev pub in_front : Option Door → Option (List Door) → Option (List Door)
in_front (Some door) (Some doors) = Some (door ∷ doors)
in_front None doors = None
in_front (Some door) None = None

-- each word is one
abbrev pub doors_in : List (List ℕ) → Option (List Door)
doors_in [] = Some []
doors_in (word ∷ words) = in_front (door_in word) (doors_in words)

abbrev pub is_port : ℕ → Option ℕ → Bool
is_port port None = false
is_port port (Some other) = other == port

-- whether one of the words names this port
abbrev pub names_port : Option ℕ → List (List ℕ) → Bool
names_port None words = false
names_port (Some port) words = list_any (λ word. is_port port (port_in word)) words

-- whether two of the words name one port
abbrev pub any_port_twice : List (List ℕ) → Bool
any_port_twice [] = false
any_port_twice (word ∷ words) = names_port (port_in word) words || any_port_twice words

-- how many workers a service has: a decimal number from 1 to 64
abbrev pub workers_in : List ℕ → Option ℕ
workers_in word = in_range 1 64 (number_of word)

-- so many workers for each service at its port
pub record Plan : Type 0 where
  pub workers : ℕ
  pub posts : List Door

abbrev pub plan_with : ℕ → Option (List Door) → Option Plan
plan_with workers None = None
plan_with workers (Some posts) = Some (record { workers = workers; posts = posts })

-- no port stands twice, and there are at most 64 workers in all
abbrev pub plan_by : Option ℕ → List (List ℕ) → Option Plan
plan_by None words = None
plan_by (Some workers) words =
    if any_port_twice words then None
    else if nat_le (workers * length words) 64 then plan_with workers (doors_in words)
    else None

-- `serve WORKERS SERVICE@PORT`, and more of these
abbrev pub plan_in : List (List ℕ) → Option Plan
plan_in (name ∷ workers ∷ post ∷ more) = if bytes_eq name (codes "serve") then plan_by (workers_in workers) (post ∷ more) else None
plan_in _ = None

-- whether the options name a server elsewhere that knows the users
abbrev pub names_remote : List (List ℕ) → Bool
names_remote words = is_some (places_in words).remote

-- options, of which none stands twice and none names such a server, since the users are those of the records here; and then these
-- words
abbrev pub plan_of : List (List ℕ) → Option Plan
plan_of words = if any_twice words then None else if names_remote words then None else plan_in (after_options words)

-- a server's words: the plan, the table's name, which is the word after `-t`, and what the other options name
pub record ServerLine : Type 0 where
  pub plan : Plan
  pub table : List ℕ
  pub places : PlaceNames

abbrev pub line_with : List (List ℕ) → Option Plan → Option ServerLine
line_with words None = None
line_with words (Some plan) = Some (record { plan = plan; table = word_or (codes "-t") default_table words; places = places_in words })

-- the server that the words ask for, if they ask for one
abbrev pub server_of : List (List ℕ) → Option ServerLine
server_of words = line_with words (plan_of words)

-- ---- the doors and the services of a plan

-- one door for each worker, in the order of the words
abbrev pub doors_of : Plan → List Door
doors_of plan = flat_map (λ post. replicate plan.workers post) plan.posts

abbrev pub has_service : Service → List Service → Bool
has_service service services = list_any (λ one. is_same_service one service) services

-- the services that don't stand among these, in order, each once
abbrev pub others_in : List Service → List Door → List Service
others_in before [] = []
others_in before (post ∷ posts) = if has_service post.0 before then others_in before posts else post.0 ∷ others_in (before ++ post.0 ∷ []) posts

-- each service once, in the order of the words
abbrev pub services_of : List Door → List Service
services_of posts = others_in [] posts
