-- What turns come to in the store.
use Rattle.std.proofs.Common.{arith, ◌≡◌, refl, sym, ap, subst, ◌∙◌, true, List, [], ◌∷◌, ◌++◌, length, take, drop, append_assoc, append-nil, Option, Some, None, option_map}
use Rattle.std.specs.Prelude.{IfSome}
use Rattle.std.proofs.lemmas.List.{length-append}
use Rattle.spool_rack.specs.Store.{HasNoFull, HasTakenFull, Handed, Loan, PutsBroken, Queues, StoreView, given_aside, given_broken, given_free, given_full, loan_of, put_aside, put_free, put_full, with_aside, with_broken, with_free, with_full, without_full}
use Rattle.spool_slots.specs.States.{BrokenView, FullView, IsBrokenFull, SlotView}
use Rattle.fw_types.specs.declared.message.Message.{Message}
use Rattle.smapd_queue.specs.Turns.{Fate, Turn, broken_by, broken_of, freed_by, freed_of, put_aside_by, put_aside_of, put_back_by, put_back_of}
use Rattle.smapd_queue.specs.Turns.Fate.{Freed, NotFreed, PutAside, NotAside, PutBack, Unread}
use Rattle.smapd_queue.specs.Slots.{IsFateOf}
use Rattle.smapd_queue.specs.Meeting.{PutsBy}
use Rattle.smapd_queue.specs.Sums.{ListsGo, QueuesGo, RoseBy, StoreGoes, ToldListsGo, ToldQueuesGo, released_by, released_of}
use Rattle.smapd_queue.proofs.LentLemmas.{lent_full, loan_here, struck_here}

-- ---- one turn

abbrev queues_with : List SlotView → List FullView → List SlotView → List BrokenView → Queues
queues_with free full aside broken = record { free = free; full = full; aside = aside; broken = broken }

abbrev pub turned : FullView → Fate → Queues → Queues
turned slot fate q = queues_with (q.free ++ freed_by fate) (drop 1 q.full ++ put_back_by slot fate) (q.aside ++ put_aside_by fate) (q.broken ++ broken_by fate)

same_queues : (a b : List SlotView) (c d : List FullView) (e f : List SlotView) (g h : List BrokenView) → a ≡ b → c ≡ d → e ≡ f → g ≡ h → queues_with a c e g ≡ queues_with b d f h
same_queues a b c d e f g h e1 e2 e3 e4 =
    ap (λ (x : List SlotView). queues_with x c e g) e1 ∙ ap (λ (x : List FullView). queues_with b x e g) e2
    ∙ ap (λ (x : List SlotView). queues_with b d x g) e3 ∙ ap (λ (x : List BrokenView). queues_with b d f x) e4

nil : {X : Type 0} (xs : List X) → xs ≡ xs ++ []
nil xs = sym (append-nil xs)

freed_queues : (slot : FullView) (message : Message) (free : SlotView) (q : Queues) → with_free free (without_full q) ≡ turned slot (Freed message free) q
freed_queues slot message free q = same_queues _ _ _ _ _ _ _ _ refl (nil (drop 1 q.full)) (nil q.aside) (nil q.broken)

aside_queues : (slot : FullView) (message : Message) (aside : SlotView) (q : Queues) → with_aside aside (without_full q) ≡ turned slot (PutAside message aside) q
aside_queues slot message aside q = same_queues _ _ _ _ _ _ _ _ (nil q.free) (nil (drop 1 q.full)) refl (nil q.broken)

back_queues : (slot : FullView) (message : Message) (q : Queues) → with_full slot (without_full q) ≡ turned slot (PutBack message) q
back_queues slot message q = same_queues _ _ _ _ _ _ _ _ (nil q.free) refl (nil q.aside) (nil q.broken)

broken_queues : (broken : BrokenView) (q : Queues) → with_broken broken (without_full q) ≡ queues_with (q.free ++ []) (drop 1 q.full ++ []) (q.aside ++ []) (q.broken ++ broken ∷ [])
broken_queues broken q = same_queues _ _ _ _ _ _ _ _ (nil q.free) (nil (drop 1 q.full)) (nil q.aside) refl

mapped : (f g h : Queues → Queues) → ((q : Queues) → f (g q) ≡ h q) → (queues : Option Queues) → option_map f (option_map g queues) ≡ option_map h queues
mapped f g h same None = refl
mapped f g h same (Some q) = ap (λ (x : Queues). Some x) (same q)

-- ---- the lists

abbrev lists_with : Handed → List Loan → List SlotView → List BrokenView → Handed
lists_with lists released aside broken = record lists { released = released; aside = aside; broken = broken }

abbrev listed : FullView → Fate → Handed → Handed
listed slot fate lists = lists_with lists (lists.released ++ released_by slot fate) (lists.aside ++ put_aside_by fate) (lists.broken ++ broken_by fate)

same_lists : (lists : Handed) (c d : List Loan) (e f : List SlotView) (g h : List BrokenView) → c ≡ d → e ≡ f → g ≡ h → lists_with lists c e g ≡ lists_with lists d f h
same_lists lists c d e f g h e2 e3 e4 =
    ap (λ (x : List Loan). lists_with lists x e g) e2 ∙ ap (λ (x : List SlotView). lists_with lists d x g) e3 ∙ ap (λ (x : List BrokenView). lists_with lists d f x) e4

abbrev lent_in : FullView → Option Handed → Loan
lent_in slot handed = lent_full slot.number (option_map (λ lists. slot) handed)

freed_lists : (slot : FullView) (message : Message) (free : SlotView) (loan : Option Loan) (handed : Option Handed) → loan ≡ Some (lent_in slot handed)
    → option_map (given_free loan) handed ≡ option_map (listed slot (Freed message free)) handed
freed_lists slot message free loan None is = refl
freed_lists slot message free loan (Some lists) is =
    ap (λ (l : Option Loan). Some (given_free l lists)) is ∙ ap (λ (x : Handed). Some x) (same_lists lists _ _ _ _ _ _ refl (nil lists.aside) (nil lists.broken))

back_lists : (slot : FullView) (message : Message) (loan : Option Loan) (handed : Option Handed) → loan ≡ Some (lent_in slot handed)
    → option_map (given_full slot loan) handed ≡ option_map (listed slot (PutBack message)) handed
back_lists slot message loan None is = refl
back_lists slot message loan (Some lists) is =
    ap (λ (l : Option Loan). Some (given_full slot l lists)) is ∙ ap (λ (x : Handed). Some x) (same_lists lists _ _ _ _ _ _ (nil lists.released) (nil lists.aside) (nil lists.broken))

aside_lists : (slot : FullView) (message : Message) (aside : SlotView) (handed : Option Handed) → option_map (given_aside aside) handed ≡ option_map (listed slot (PutAside message aside)) handed
aside_lists slot message aside None = refl
aside_lists slot message aside (Some lists) = ap (λ (x : Handed). Some x) (same_lists lists _ _ _ _ _ _ (nil lists.released) refl (nil lists.broken))

broken_list : (broken : BrokenView) (lists : Handed) → broken.from_full ≡ true → given_broken broken lists ≡ lists_with lists (lists.released ++ []) (lists.aside ++ []) (lists.broken ++ broken ∷ [])
broken_list broken lists full = rw full (same_lists lists _ _ _ _ _ _ (nil lists.released) (nil lists.aside) refl)

broken_lists : (broken : BrokenView) (handed : Option Handed) → broken.from_full ≡ true
    → option_map (given_broken broken) handed ≡ option_map (λ (lists : Handed). lists_with lists (lists.released ++ []) (lists.aside ++ []) (lists.broken ++ broken ∷ [])) handed
broken_lists broken None full = refl
broken_lists broken (Some lists) full = ap (λ (x : Handed). Some x) (broken_list broken lists full)

-- ---- the store after a turn

pub record Turned (slot : FullView) (fate : Fate) (old new : StoreView) : Type 0 where
  pub queues : new.queues ≡ option_map (turned slot fate) old.queues
  pub handed : new.handed ≡ option_map (listed slot fate) old.handed
  pub out : new.out ≡ old.out
  pub no_free : new.no_free ≡ old.no_free
  pub no_full : new.no_full ≡ old.no_full
  pub broken : RoseBy (length (broken_by fate)) old.broken new.broken

-- the store after the slot was taken
abbrev lent_of : FullView → StoreView → StoreView
lent_of slot old = record {
  queues = option_map without_full old.queues;
  handed = old.handed;
  out = lent_in slot old.handed ∷ old.out;
  no_free = old.no_free;
  no_full = old.no_full;
  broken = old.broken;
}

freed_store : (slot : FullView) (message : Message) (free : SlotView) (old : StoreView) → free.number ≡ slot.number → Turned slot (Freed message free) old (put_free free (lent_of slot old))
freed_store slot message free old is = record {
  queues = mapped (with_free free) without_full (turned slot (Freed message free)) (freed_queues slot message free) old.queues;
  handed = freed_lists slot message free (loan_of free.number (lent_in slot old.handed ∷ old.out)) old.handed (loan_here free.number slot.number (option_map (λ lists. slot) old.handed) old.out is);
  out = struck_here free.number slot.number (option_map (λ lists. slot) old.handed) old.out is;
  no_free = refl;
  no_full = refl;
  broken = omega arith;
}

aside_store : (slot : FullView) (message : Message) (aside : SlotView) (old : StoreView) → aside.number ≡ slot.number → Turned slot (PutAside message aside) old (put_aside aside (lent_of slot old))
aside_store slot message aside old is = record {
  queues = mapped (with_aside aside) without_full (turned slot (PutAside message aside)) (aside_queues slot message aside) old.queues;
  handed = aside_lists slot message aside old.handed;
  out = struck_here aside.number slot.number (option_map (λ lists. slot) old.handed) old.out is;
  no_free = refl;
  no_full = refl;
  broken = omega arith;
}

back_store : (slot : FullView) (message : Message) (old : StoreView) → Turned slot (PutBack message) old (put_full slot (lent_of slot old))
back_store slot message old = record {
  queues = mapped (with_full slot) without_full (turned slot (PutBack message)) (back_queues slot message) old.queues;
  handed = back_lists slot message (loan_of slot.number (lent_in slot old.handed ∷ old.out)) old.handed (loan_here slot.number slot.number (option_map (λ lists. slot) old.handed) old.out refl);
  out = struck_here slot.number slot.number (option_map (λ lists. slot) old.handed) old.out refl;
  no_free = refl;
  no_full = refl;
  broken = omega arith;
}

-- a slot that is broken by its disk
record PutsBrokenFull (broken : BrokenView) (old new : StoreView) : Type 0 where
  queues : new.queues ≡ option_map (λ (q : Queues). queues_with (q.free ++ []) (drop 1 q.full ++ []) (q.aside ++ []) (q.broken ++ broken ∷ [])) old.queues
  handed : new.handed ≡ option_map (λ (lists : Handed). lists_with lists (lists.released ++ []) (lists.aside ++ []) (lists.broken ++ broken ∷ [])) old.handed
  out : new.out ≡ old.out
  no_free : new.no_free ≡ old.no_free
  no_full : new.no_full ≡ old.no_full
  broken_by_one : RoseBy 1 old.broken new.broken

broken_store : (slot : FullView) (broken : BrokenView) (old new : StoreView) → IsBrokenFull slot.number slot.disk broken → PutsBroken broken (lent_of slot old) new → PutsBrokenFull broken old new
broken_store slot broken old new b p =
    let rose = p.rose.1 in
    subst (PutsBrokenFull broken old) (sym p.is) (record {
      queues = mapped (with_broken broken) without_full (λ (q : Queues). queues_with (q.free ++ []) (drop 1 q.full ++ []) (q.aside ++ []) (q.broken ++ broken ∷ [])) (broken_queues broken) old.queues;
      handed = broken_lists broken old.handed b.full;
      out = struck_here broken.number slot.number (option_map (λ lists. slot) old.handed) old.out b.number_is;
      no_free = refl;
      no_full = refl;
      broken_by_one = omega (arith, rose);
    })

turned_lent : (slot : FullView) (fate : Fate) (old new : StoreView) → IsFateOf slot fate → PutsBy slot fate (lent_of slot old) new → Turned slot fate old new
turned_lent slot (Freed message free) old new h p = subst (Turned slot (Freed message free) old) (sym p) (freed_store slot message free old h.1.onward.number_is)
turned_lent slot (NotFreed message broken) old new h p = let b = broken_store slot broken old new h.1.broke p in record { queues = b.queues; handed = b.handed; out = b.out; no_free = b.no_free; no_full = b.no_full; broken = b.broken_by_one }
turned_lent slot (PutAside message aside) old new h p = subst (Turned slot (PutAside message aside) old) (sym p) (aside_store slot message aside old h.1.onward.number_is)
turned_lent slot (NotAside message broken) old new h p = let b = broken_store slot broken old new h.1.broke p in record { queues = b.queues; handed = b.handed; out = b.out; no_free = b.no_free; no_full = b.no_full; broken = b.broken_by_one }
turned_lent slot (PutBack message) old new h p = subst (Turned slot (PutBack message) old) (sym p) (back_store slot message old)
turned_lent slot (Unread broken) old new h p = let b = broken_store slot broken old new h.broke p in record { queues = b.queues; handed = b.handed; out = b.out; no_free = b.no_free; no_full = b.no_full; broken = b.broken_by_one }

pub turned_by : (slot : FullView) (fate : Fate) (old lent new : StoreView) → HasTakenFull slot old lent → IsFateOf slot fate → PutsBy slot fate lent new → Turned slot fate old new
turned_by slot fate old lent new t h p = turned_lent slot fate old new h (subst (λ (s : StoreView). PutsBy slot fate s new) t.is p)

-- ---- none, and one more in front

pub front_of : {X : Type 0} (x : X) (items : List X) → take 1 items ≡ x ∷ [] → items ≡ x ∷ drop 1 items
front_of x [] e = absurd cc
front_of {X} x (y ∷ items) e = let is : y ≡ x = cc in ap (λ (z : X). z ∷ items) is

queues_first : (turn : Turn) (turns : List Turn) (lacked : List FullView) (q new : Queues) → take 1 q.full ≡ turn.slot ∷ [] → QueuesGo turns lacked (turned turn.slot turn.fate q) new → QueuesGo (turn ∷ turns) lacked q new
queues_first turn turns lacked q new front g = record {
  free = g.free ∙ append_assoc q.free (freed_by turn.fate) (freed_of turns);
  full = ap (λ (l : List FullView). l ++ ((put_back_by turn.slot turn.fate ++ put_back_of turns) ++ lacked)) (front_of turn.slot q.full front)
      ∙ ap (λ (l : List FullView). turn.slot ∷ (drop 1 q.full ++ l)) (append_assoc (put_back_by turn.slot turn.fate) (put_back_of turns) lacked)
      ∙ ap (λ (l : List FullView). turn.slot ∷ l) (sym (append_assoc (drop 1 q.full) (put_back_by turn.slot turn.fate) (put_back_of turns ++ lacked)) ∙ g.full);
  aside = g.aside ∙ append_assoc q.aside (put_aside_by turn.fate) (put_aside_of turns);
  broken = g.broken ∙ append_assoc q.broken (broken_by turn.fate) (broken_of turns);
}

told_queues_first : (turn : Turn) (turns : List Turn) (lacked : List FullView) (old new : Option Queues) → IfSome old (λ q. take 1 q.full ≡ turn.slot ∷ [])
    → ToldQueuesGo turns lacked (option_map (turned turn.slot turn.fate) old) new → ToldQueuesGo (turn ∷ turns) lacked old new
told_queues_first turn turns lacked None None front g = tt
told_queues_first turn turns lacked None (Some new) front g = absurd g
told_queues_first turn turns lacked (Some q) None front g = absurd g
told_queues_first turn turns lacked (Some q) (Some new) front g = queues_first turn turns lacked q new front g

lists_first : (turn : Turn) (turns : List Turn) (lists new : Handed) → ListsGo turns (listed turn.slot turn.fate lists) new → ListsGo (turn ∷ turns) lists new
lists_first turn turns lists new g = record {
  home = g.home;
  parts = g.parts;
  began = g.began;
  put = g.put;
  released = g.released ∙ append_assoc lists.released (released_by turn.slot turn.fate) (released_of turns);
  aside = g.aside ∙ append_assoc lists.aside (put_aside_by turn.fate) (put_aside_of turns);
  broken = g.broken ∙ append_assoc lists.broken (broken_by turn.fate) (broken_of turns);
}

told_lists_first : (turn : Turn) (turns : List Turn) (old new : Option Handed) → ToldListsGo turns (option_map (listed turn.slot turn.fate) old) new → ToldListsGo (turn ∷ turns) old new
told_lists_first turn turns None None g = tt
told_lists_first turn turns None (Some new) g = absurd g
told_lists_first turn turns (Some lists) None g = absurd g
told_lists_first turn turns (Some lists) (Some new) g = lists_first turn turns lists new g

pub store_first : (turn : Turn) (turns : List Turn) (lacked : List FullView) (old lent middle new : StoreView) → HasTakenFull turn.slot old lent → Turned turn.slot turn.fate old middle
    → StoreGoes turns lacked middle new → StoreGoes (turn ∷ turns) lacked old new
store_first turn turns lacked old lent middle new t m g =
    let long = length-append (broken_by turn.fate) (broken_of turns) in
    let first = m.broken in
    let more = g.broken in
    record {
      queues = told_queues_first turn turns lacked old.queues new.queues t.front (subst (λ (q : Option Queues). ToldQueuesGo turns lacked q new.queues) m.queues g.queues);
      lists = told_lists_first turn turns old.handed new.handed (subst (λ (l : Option Handed). ToldListsGo turns l new.handed) m.handed g.lists);
      out = g.out ∙ m.out;
      no_free = g.no_free ∙ m.no_free;
      broken = omega (arith, long, first, more);
    }

-- nothing was done to the queues
queues_here : (queues : Option Queues) → ToldQueuesGo [] [] queues queues
queues_here None = tt
queues_here (Some q) = record { free = nil q.free; full = append-nil q.full; aside = nil q.aside; broken = nil q.broken }

lists_here : (handed : Option Handed) → ToldListsGo [] handed handed
lists_here None = tt
lists_here (Some lists) = record { home = refl; parts = refl; began = refl; put = refl; released = nil lists.released; aside = nil lists.aside; broken = nil lists.broken }

pub store_here : (old : StoreView) → StoreGoes [] [] old old
store_here old = record { queues = queues_here old.queues; lists = lists_here old.handed; out = refl; no_free = refl; broken = omega arith }

pub store_none : (old new : StoreView) → HasNoFull old new → StoreGoes [] [] old new
store_none old new h = subst (StoreGoes [] [] old) (sym h.is) (record { queues = queues_here old.queues; lists = lists_here old.handed; out = refl; no_free = refl; broken = omega arith })

-- a slot was put back for want of memory
lacked_queues : (slot : FullView) (queues : Option Queues) → IfSome queues (λ q. take 1 q.full ≡ slot ∷ []) → ToldQueuesGo [] (slot ∷ []) queues (option_map (with_full slot) (option_map without_full queues))
lacked_queues slot None front = tt
lacked_queues slot (Some q) front = record {
  free = nil q.free;
  full = ap (λ (l : List FullView). l ++ slot ∷ []) (front_of slot q.full front);
  aside = nil q.aside;
  broken = nil q.broken;
}

lacked_lists : (slot : FullView) (loan : Option Loan) (handed : Option Handed) → loan ≡ Some (lent_in slot handed) → ToldListsGo [] handed (option_map (given_full slot loan) handed)
lacked_lists slot loan None is = tt
lacked_lists slot loan (Some lists) is = subst (λ (l : Option Loan). ListsGo [] lists (given_full slot l lists)) (sym is) (record { home = refl; parts = refl; began = refl; put = refl; released = nil lists.released; aside = nil lists.aside; broken = nil lists.broken })

pub store_lacked : (slot : FullView) (old lent new : StoreView) → HasTakenFull slot old lent → new ≡ put_full slot lent → StoreGoes [] (slot ∷ []) old new
store_lacked slot old lent new t is =
    let there : new ≡ put_full slot (lent_of slot old) = is ∙ ap (put_full slot) t.is in
    subst (StoreGoes [] (slot ∷ []) old) (sym there) (record {
      queues = lacked_queues slot old.queues t.front;
      lists = lacked_lists slot (loan_of slot.number (lent_in slot old.handed ∷ old.out)) old.handed (loan_here slot.number slot.number (option_map (λ lists. slot) old.handed) old.out refl);
      out = struck_here slot.number slot.number (option_map (λ lists. slot) old.handed) old.out refl;
      no_free = refl;
      broken = omega arith;
    })

-- the counts of a store from which a slot was taken and put back
pub lacked_count : (slot : FullView) (old lent new : StoreView) → HasTakenFull slot old lent → new ≡ put_full slot lent → new.no_full ≡ old.no_full
lacked_count slot old lent new t is = ap (λ (s : StoreView). s.no_full) is ∙ ap (λ (s : StoreView). s.no_full) t.is
