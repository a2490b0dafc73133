-- The services of a plan may be served.
use Rattle.std.proofs.Common.{◌≡◌, ℕ, List, [], ◌∷◌, ◌++◌, refl, Bool, true, false}
use Rattle.std.specs.Prelude.{All, Option, Some, None, IfSome, if◌then◌else◌}
use Rattle.std.proofs.lemmas.List.Elements.{All-cons, All-head, All-nil, All-tail}
use Rattle.bastion.specs.Words.{after_options, any_twice}
use Rattle.gate_rules.specs.declared.service.Service.{Service}
use Rattle.bastion_ready.specs.Words.{Door, Plan, any_port_twice, door_by, door_in, doors_in, has_service, in_front, is_for_server, line_with, names_remote, others_in, plan_by, plan_in, plan_of, plan_with, services_of, workers_in}

abbrev pub MayBe : Service → Type 0
MayBe service = is_for_server service ≡ true

abbrev pub AtDoor : Door → Type 0
AtDoor door = MayBe door.0

-- ---- each door

tested : (test : Bool) (service : Service) (port : ℕ) → is_for_server service ≡ test → IfSome (if test then Some (service, port) else None) AtDoor
tested true service port is = is
tested false service port is = tt

door_served : (service : Option Service) (port : Option ℕ) → IfSome (door_by service port) AtDoor
door_served (Some service) (Some port) = tested (is_for_server service) service port refl
door_served (Some service) None = tt
door_served None port = tt

-- ---- all of them

abbrev AllServed : List Door → Type 0
AllServed doors = All AtDoor doors

front_served : (found : Option Door) (more : Option (List Door)) → IfSome found AtDoor → IfSome more AllServed → IfSome (in_front found more) AllServed
front_served (Some door) (Some doors) one others = All-cons AtDoor door doors one others
front_served (Some door) None one others = tt
front_served None more one others = tt

doors_served : (words : List (List ℕ)) → IfSome (doors_in words) AllServed
doors_served [] = All-nil AtDoor
doors_served (word ∷ words) = front_served (door_in word) (doors_in words) (door_served _ _) (doors_served words)

-- ---- the plan

abbrev PlanServed : Option Plan → Type 0
PlanServed plan = IfSome plan (λ p. AllServed p.posts)

with_served : (workers : ℕ) (read : Option (List Door)) → IfSome read AllServed → PlanServed (plan_with workers read)
with_served workers (Some posts) all = all
with_served workers None all = tt

if_served : (test : Bool) (plan : Option Plan) → PlanServed plan → PlanServed (if test then plan else None)
if_served true plan all = all
if_served false plan all = tt

unless_served : (test : Bool) (plan : Option Plan) → PlanServed plan → PlanServed (if test then None else plan)
unless_served true plan all = tt
unless_served false plan all = all

by_served : (workers : Option ℕ) (words : List (List ℕ)) → PlanServed (plan_by workers words)
by_served None words = tt
by_served (Some workers) words =
    unless_served (any_port_twice words) _ (if_served _ (plan_with workers (doors_in words)) (with_served workers (doors_in words) (doors_served words)))

in_served : (words : List (List ℕ)) → PlanServed (plan_in words)
in_served [] = tt
in_served (name ∷ []) = tt
in_served (name ∷ workers ∷ []) = tt
in_served (name ∷ workers ∷ post ∷ more) = if_served _ (plan_by (workers_in workers) (post ∷ more)) (by_served (workers_in workers) (post ∷ more))

plan_served : (words : List (List ℕ)) → PlanServed (plan_of words)
plan_served words =
    let plan = plan_in (after_options words) in
    unless_served (any_twice words) (if names_remote words then None else plan) (unless_served (names_remote words) plan (in_served (after_options words)))

line_served : (words : List (List ℕ)) (plan : Option Plan) → PlanServed plan → IfSome (line_with words plan) (λ line. AllServed line.plan.posts)
line_served words (Some plan) all = all
line_served words None all = tt

-- the services of a server's words may be served
pub words_served : (words : List (List ℕ)) → IfSome (line_with words (plan_of words)) (λ line. All AtDoor line.plan.posts)
words_served words = line_served words (plan_of words) (plan_served words)

-- ---- the services, each once

others_by : (test : Bool) (service : Service) (same new : List Service) → MayBe service → All MayBe same → All MayBe new → All MayBe (if test then same else service ∷ new)
others_by true service same new one all more = all
others_by false service same new one all more = All-cons MayBe service new one more

others_served : (before : List Service) (posts : List Door) → All AtDoor posts → All MayBe (others_in before posts)
others_served before [] all = All-nil MayBe
others_served before (post ∷ posts) all =
    others_by (has_service post.0 before) post.0 (others_in before posts) (others_in (before ++ post.0 ∷ []) posts) (All-head AtDoor post posts all) (others_served before posts (All-tail AtDoor post posts all)) (others_served (before ++ post.0 ∷ []) posts (All-tail AtDoor post posts all))

pub services_served : (posts : List Door) → All AtDoor posts → All MayBe (services_of posts)
services_served posts all = others_served [] posts all
