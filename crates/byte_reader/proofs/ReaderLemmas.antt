-- How readers are put together.
use Rattle.std.proofs.Common.{◌≡◌, ℕ, ◌≤◌, List, [], ◌∷◌, ◌++◌, length, Result, Ok, Err, refl, sym, ap, subst, ◌∙◌, append_assoc, length-append, arith, ◌⊎◌, inl, inr}
use Rattle.byte_reader.specs.Reading.{IsBytes, Read, ◌>>=◌}
use Rattle.byte_reader.specs.Exact.{Begins, StopsAtFirstBad, ReadsExactly}

-- ---- lists

pub append_right : (x y : List ℕ) → IsBytes (x ++ y) → IsBytes y
append_right [] y h = h
append_right (b ∷ x) y h = append_right x y h.1

pub append_left : (x y : List ℕ) → IsBytes (x ++ y) → IsBytes x
append_left [] y h = tt
append_left (b ∷ x) y h = (h.0, append_left x y h.1)

-- of two ways to cut a list, one cuts earlier
pub cut_either : (x y p q : List ℕ) → x ++ y ≡ p ++ q → ((r : List ℕ) × (x ≡ p ++ r) × (q ≡ r ++ y)) ⊎ ((r : List ℕ) × (p ≡ x ++ r) × (y ≡ r ++ q))
cut_either x y [] q e = inl (x, refl, sym e)
cut_either [] y (b ∷ p) q e = inr (b ∷ p, refl, e)
cut_either (a ∷ x) y (b ∷ p) q e =
    let heads : a ≡ b = cc in
    let tails : x ++ y ≡ p ++ q = cc in
    elim (cut_either x y p q tails) [
      | inl r ↦ let one : a ∷ x ≡ (b ∷ p) ++ r.0 = cc (r.1, heads) in inl (r.0, one, r.2)
      | inr r ↦ let one : b ∷ p ≡ (a ∷ x) ++ r.0 = cc (r.1, heads) in inr (r.0, one, r.2)
    ]

pub same_front : (x y z : List ℕ) → x ++ y ≡ x ++ z → y ≡ z
same_front [] y z e = e
same_front (b ∷ x) y z e = let tails : x ++ y ≡ x ++ z = cc in same_front x y z tails

-- ---- results

pub bind_ok : (A B : Type 0) (r : Result A ℕ) (f : A → Result B ℕ) (y : B) → (r >>= f) ≡ Ok y → (x : A) × (r ≡ Ok x) × (f x ≡ Ok y)
bind_ok A B (Ok x) f y e = (x, refl, e)
bind_ok A B (Err d) f y e = absurd cc

pub bind_err : (A B : Type 0) (r : Result A ℕ) (f : A → Result B ℕ) (left : ℕ) → (r >>= f) ≡ Err left → (r ≡ Err left) ⊎ ((x : A) × (r ≡ Ok x) × (f x ≡ Err left))
bind_err A B (Ok x) f left e = inr (x, refl, e)
bind_err A B (Err d) f left e = let same : d ≡ left = cc in inl (ap (λ (n : ℕ). let r : Result A ℕ = Err n in r) same)

-- ---- another reader that reads the same

pub reads_same : (A : Type 0) (f g : List ℕ → Read A) (Fits : A → Type 0) (spell : A → List ℕ) → ((bytes : List ℕ) → g bytes ≡ f bytes) → ReadsExactly A f Fits spell → ReadsExactly A g Fits spell
reads_same A f g Fits spell same r = record {
  sound = λ bytes x fits e. r.sound bytes x fits (sym (same bytes) ∙ e);
  again = λ a rest fits. same (spell a ++ rest) ∙ r.again a rest fits;
  stops = λ bytes left fits e. r.stops bytes left fits (sym (same bytes) ∙ e);
  some = r.some;
}

-- ---- what was read, seen as another value

abbrev pub through : (A C : Type 0) → (List ℕ → Read A) → (A → C) → List ℕ → Read C
through A C f h bytes = f bytes >>= λ x. Ok (h x.0, x.1)

pub record Sees (A C : Type 0) (FitsA : A → Type 0) (spellA : A → List ℕ) (h : A → C) (FitsC : C → Type 0) (spellC : C → List ℕ) : Type 0 where
  pub to : (a : A) → FitsA a → FitsC (h a) × (spellC (h a) ≡ spellA a)
  pub from : (c : C) → FitsC c → (a : A) × FitsA a × (h a ≡ c)

pub sees_begins : (A C : Type 0) (FitsA : A → Type 0) (spellA : A → List ℕ) (h : A → C) (FitsC : C → Type 0) (spellC : C → List ℕ) → Sees A C FitsA spellA h FitsC spellC
    → (front : List ℕ) → Begins C FitsC spellC front → Begins A FitsA spellA front
sees_begins A C FitsA spellA h FitsC spellC s front b =
    let a = s.from b.0 b.1 in
    let one : spellC (h a.0) ≡ front ++ b.2 = ap spellC a.2 ∙ b.3 in
    (a.0, a.1, b.2, sym (s.to a.0 a.1).1 ∙ one)

abbrev ok : {X : Type 0} → X → Result X ℕ
ok x = Ok x

pub ok_is : (X : Type 0) (x y : X) → ok x ≡ ok y → x ≡ y
ok_is X x y e = cc

pub sees_stops : (A C : Type 0) (FitsA : A → Type 0) (spellA : A → List ℕ) (h : A → C) (FitsC : C → Type 0) (spellC : C → List ℕ) → Sees A C FitsA spellA h FitsC spellC
    → (bytes : List ℕ) (left : ℕ) → StopsAtFirstBad A FitsA spellA bytes left → StopsAtFirstBad C FitsC spellC bytes left
sees_stops A C FitsA spellA h FitsC spellC s bytes left st = record {
  front = st.front;
  tail = st.tail;
  parts = st.parts;
  len = st.len;
  begins = (h st.begins.0, (s.to st.begins.0 st.begins.1).0, st.begins.2, (s.to st.begins.0 st.begins.1).1 ∙ st.begins.3);
  longest = λ p q e b. st.longest p q e (sees_begins A C FitsA spellA h FitsC spellC s p b);
}

pub reads_through : (A C : Type 0) (f : List ℕ → Read A) (FitsA : A → Type 0) (spellA : A → List ℕ) (h : A → C) (FitsC : C → Type 0) (spellC : C → List ℕ) → ReadsExactly A f FitsA spellA → Sees A C FitsA spellA h FitsC spellC
    → ReadsExactly C (through A C f h) FitsC spellC
reads_through A C f FitsA spellA h FitsC spellC r s = record {
  sound = λ bytes x fits e.
      let b = bind_ok (A × List ℕ) (C × List ℕ) (f bytes) (λ y. Ok (h y.0, y.1)) x e in
      let t = r.sound bytes b.0 fits b.1 in
      let seen = s.to b.0.0 t.0 in
      let made : C × List ℕ = (h b.0.0, b.0.1) in
      let parts : bytes ≡ spellC (h b.0.0) ++ b.0.1 = t.1 ∙ ap (λ (w : List ℕ). w ++ b.0.1) (sym seen.1) in
      subst (λ (y : C × List ℕ). FitsC y.0 × (bytes ≡ spellC y.0 ++ y.1)) (ok_is (C × List ℕ) made x b.2) (seen.0, parts);
  again = λ c rest fits.
      let a = s.from c fits in
      let same : spellC c ≡ spellA a.0 = ap spellC (sym a.2) ∙ (s.to a.0 a.1).1 in
      let text : spellC c ++ rest ≡ spellA a.0 ++ rest = ap (λ (w : List ℕ). w ++ rest) same in
      ap (through A C f h) text ∙ rw (r.again a.0 rest a.1) (ap (λ (z : C). let y : Result (C × List ℕ) ℕ = Ok (z, rest) in y) a.2);
  stops = λ bytes left fits e.
      elim (bind_err (A × List ℕ) (C × List ℕ) (f bytes) (λ y. Ok (h y.0, y.1)) left e) [
        | inl stop ↦ sees_stops A C FitsA spellA h FitsC spellC s bytes left (r.stops bytes left fits stop)
        | inr y ↦ absurd (cc (y.2))
      ];
  some = (h r.some.0, (s.to r.some.0 r.some.1).0);
}

-- ---- one field and then another, whose form may depend on the first

abbrev pub both : (A B : Type 0) → (List ℕ → Read A) → (A → List ℕ → Read B) → List ℕ → Read (A × B)
both A B f g bytes = f bytes >>= λ x. (g x.0 x.1 >>= λ y. Ok ((x.0, y.0), y.1))

abbrev pub FitBoth : (A B : Type 0) → (A → Type 0) → (A → B → Type 0) → A × B → Type 0
FitBoth A B FitsA FitsB p = FitsA p.0 × FitsB p.0 p.1

abbrev pub spell_both : (A B : Type 0) → (A → List ℕ) → (A → B → List ℕ) → A × B → List ℕ
spell_both A B spellA spellB p = spellA p.0 ++ spellB p.0 p.1

both_sound : (A B : Type 0) (f : List ℕ → Read A) (g : A → List ℕ → Read B) (FitsA : A → Type 0) (spellA : A → List ℕ) (FitsB : A → B → Type 0) (spellB : A → B → List ℕ) → ReadsExactly A f FitsA spellA → ((a : A) → FitsA a → ReadsExactly B (g a) (FitsB a) (spellB a))
    → (bytes : List ℕ) (x : (A × B) × List ℕ) → IsBytes bytes → both A B f g bytes ≡ Ok x → FitBoth A B FitsA FitsB x.0 × (bytes ≡ spell_both A B spellA spellB x.0 ++ x.1)
both_sound A B f g FitsA spellA FitsB spellB r1 r2 bytes x fits e =
    let b = bind_ok (A × List ℕ) ((A × B) × List ℕ) (f bytes) (λ a. (g a.0 a.1 >>= λ y. Ok ((a.0, y.0), y.1))) x e in
    let c = bind_ok (B × List ℕ) ((A × B) × List ℕ) (g b.0.0 b.0.1) (λ y. Ok ((b.0.0, y.0), y.1)) x b.2 in
    let t = r1.sound bytes b.0 fits b.1 in
    let rest_fits : IsBytes b.0.1 = append_right (spellA b.0.0) b.0.1 (subst IsBytes t.1 fits) in
    let u = (r2 b.0.0 t.0).sound b.0.1 c.0 rest_fits c.1 in
    let made : (A × B) × List ℕ = ((b.0.0, c.0.0), c.0.1) in
    let parts : bytes ≡ (spellA b.0.0 ++ spellB b.0.0 c.0.0) ++ c.0.1 = t.1 ∙ ap (λ (w : List ℕ). spellA b.0.0 ++ w) u.1 ∙ sym (append_assoc (spellA b.0.0) (spellB b.0.0 c.0.0) c.0.1) in
    subst (λ (y : (A × B) × List ℕ). FitBoth A B FitsA FitsB y.0 × (bytes ≡ spell_both A B spellA spellB y.0 ++ y.1)) (ok_is ((A × B) × List ℕ) made x c.2) ((t.0, u.0), parts)

both_again : (A B : Type 0) (f : List ℕ → Read A) (g : A → List ℕ → Read B) (FitsA : A → Type 0) (spellA : A → List ℕ) (FitsB : A → B → Type 0) (spellB : A → B → List ℕ) → ReadsExactly A f FitsA spellA → ((a : A) → FitsA a → ReadsExactly B (g a) (FitsB a) (spellB a))
    → (p : A × B) (rest : List ℕ) → FitBoth A B FitsA FitsB p → both A B f g (spell_both A B spellA spellB p ++ rest) ≡ Ok (p, rest)
both_again A B f g FitsA spellA FitsB spellB r1 r2 p rest fits =
    let text : spell_both A B spellA spellB p ++ rest ≡ spellA p.0 ++ (spellB p.0 p.1 ++ rest) = append_assoc (spellA p.0) (spellB p.0 p.1) rest in
    ap (both A B f g) text ∙ rw (r1.again p.0 (spellB p.0 p.1 ++ rest) fits.0, (r2 p.0 fits.0).again p.1 rest fits.1) refl

-- the first field is bad
first_stops : (A B : Type 0) (f : List ℕ → Read A) (FitsA : A → Type 0) (spellA : A → List ℕ) (FitsB : A → B → Type 0) (spellB : A → B → List ℕ) → ReadsExactly A f FitsA spellA → ((a : A) → FitsA a → (b : B) × FitsB a b)
    → (bytes : List ℕ) (left : ℕ) → f bytes ≡ Err left → StopsAtFirstBad A FitsA spellA bytes left → StopsAtFirstBad (A × B) (FitBoth A B FitsA FitsB) (spell_both A B spellA spellB) bytes left
first_stops A B f FitsA spellA FitsB spellB r1 some bytes left e st =
    let a = st.begins.0 in
    let b = some a st.begins.1 in
    let text : spellA a ++ spellB a b.0 ≡ st.front ++ (st.begins.2 ++ spellB a b.0) = ap (λ (w : List ℕ). w ++ spellB a b.0) st.begins.3 ∙ append_assoc st.front st.begins.2 (spellB a b.0) in
    record {
      front = st.front;
      tail = st.tail;
      parts = st.parts;
      len = st.len;
      begins = ((a, b.0), (st.begins.1, b.1), st.begins.2 ++ spellB a b.0, text);
      longest = λ p q cut begun.
          let c = begun.0.0 in
          elim (cut_either (spellA c) (spellB c begun.0.1) p begun.2 begun.3) [
            | inl r ↦ st.longest p q cut (c, begun.1.0, r.0, r.1)
            | inr r ↦
                let all : bytes ≡ spellA c ++ (r.0 ++ q) = cut ∙ ap (λ (w : List ℕ). w ++ q) r.1 ∙ append_assoc (spellA c) r.0 q in
                let good : f bytes ≡ Ok (c, r.0 ++ q) = ap f all ∙ r1.again c (r.0 ++ q) begun.1.0 in
                absurd (cc (good, e))
          ];
    }

-- the first field is read, and the second is bad
second_stops : (A B : Type 0) (f : List ℕ → Read A) (FitsA : A → Type 0) (spellA : A → List ℕ) (FitsB : A → B → Type 0) (spellB : A → B → List ℕ) → ReadsExactly A f FitsA spellA
    → (bytes : List ℕ) (left : ℕ) (a : A) (rest : List ℕ) → FitsA a → bytes ≡ spellA a ++ rest → StopsAtFirstBad B (FitsB a) (spellB a) rest left → StopsAtFirstBad (A × B) (FitBoth A B FitsA FitsB) (spell_both A B spellA spellB) bytes left
second_stops A B f FitsA spellA FitsB spellB r1 bytes left a rest fits parts st =
    let b = st.begins.0 in
    let cut : bytes ≡ (spellA a ++ st.front) ++ st.tail = parts ∙ ap (λ (w : List ℕ). spellA a ++ w) st.parts ∙ sym (append_assoc (spellA a) st.front st.tail) in
    let text : spellA a ++ spellB a b ≡ (spellA a ++ st.front) ++ st.begins.2 = ap (λ (w : List ℕ). spellA a ++ w) st.begins.3 ∙ sym (append_assoc (spellA a) st.front st.begins.2) in
    record {
      front = spellA a ++ st.front;
      tail = st.tail;
      parts = cut;
      len = st.len;
      begins = ((a, b), (fits, st.begins.1), st.begins.2, text);
      longest = λ p q whole begun.
          elim (cut_either (spellA a) rest p q (sym parts ∙ whole)) [
            | inl r ↦
                let all : rest ≡ st.front ++ st.tail = st.parts in
                omega (arith, ap length r.2, length-append r.0 rest, ap length all, length-append st.front st.tail, st.len)
            | inr r ↦
                let c = begun.0.0 in
                let d = begun.0.1 in
                let same : spellA c ++ spellB c d ≡ spellA a ++ (r.0 ++ begun.2) = begun.3 ∙ ap (λ (w : List ℕ). w ++ begun.2) r.1 ∙ append_assoc (spellA a) r.0 begun.2 in
                let read_c : f (spellA c ++ spellB c d) ≡ Ok (c, spellB c d) = r1.again c (spellB c d) begun.1.0 in
                let read_a : f (spellA a ++ (r.0 ++ begun.2)) ≡ Ok (a, r.0 ++ begun.2) = r1.again a (r.0 ++ begun.2) fits in
                let pair_c : A × List ℕ = (c, spellB c d) in
                let pair_a : A × List ℕ = (a, r.0 ++ begun.2) in
                let pairs : pair_c ≡ pair_a = ok_is (A × List ℕ) pair_c pair_a (sym read_c ∙ ap f same ∙ read_a) in
                let first : c ≡ a = ap (λ (x : A × List ℕ). x.0) pairs in
                let second : spellB c d ≡ r.0 ++ begun.2 = ap (λ (x : A × List ℕ). x.1) pairs in
                let moved : FitsB a d × (spellB a d ≡ r.0 ++ begun.2) = subst (λ (x : A). FitsB x d × (spellB x d ≡ r.0 ++ begun.2)) first (begun.1.1, second) in
                st.longest r.0 q r.2 (d, moved.0, begun.2, moved.1)
          ];
    }

both_stops : (A B : Type 0) (f : List ℕ → Read A) (g : A → List ℕ → Read B) (FitsA : A → Type 0) (spellA : A → List ℕ) (FitsB : A → B → Type 0) (spellB : A → B → List ℕ) → ReadsExactly A f FitsA spellA → ((a : A) → FitsA a → ReadsExactly B (g a) (FitsB a) (spellB a))
    → (bytes : List ℕ) (left : ℕ) → IsBytes bytes → both A B f g bytes ≡ Err left → StopsAtFirstBad (A × B) (FitBoth A B FitsA FitsB) (spell_both A B spellA spellB) bytes left
both_stops A B f g FitsA spellA FitsB spellB r1 r2 bytes left fits e =
    elim (bind_err (A × List ℕ) ((A × B) × List ℕ) (f bytes) (λ a. (g a.0 a.1 >>= λ y. Ok ((a.0, y.0), y.1))) left e) [
      | inl stop ↦ first_stops A B f FitsA spellA FitsB spellB r1 (λ a h. (r2 a h).some) bytes left stop (r1.stops bytes left fits stop)
      | inr x ↦
          let t = r1.sound bytes x.0 fits x.1 in
          let rest_fits : IsBytes x.0.1 = append_right (spellA x.0.0) x.0.1 (subst IsBytes t.1 fits) in
          elim (bind_err (B × List ℕ) ((A × B) × List ℕ) (g x.0.0 x.0.1) (λ y. Ok ((x.0.0, y.0), y.1)) left x.2) [
            | inl stop ↦ second_stops A B f FitsA spellA FitsB spellB r1 bytes left x.0.0 x.0.1 t.0 t.1 ((r2 x.0.0 t.0).stops x.0.1 left rest_fits stop)
            | inr y ↦ absurd (cc (y.2))
          ]
    ]

pub reads_both : (A B : Type 0) (f : List ℕ → Read A) (g : A → List ℕ → Read B) (FitsA : A → Type 0) (spellA : A → List ℕ) (FitsB : A → B → Type 0) (spellB : A → B → List ℕ) → ReadsExactly A f FitsA spellA → ((a : A) → FitsA a → ReadsExactly B (g a) (FitsB a) (spellB a))
    → ReadsExactly (A × B) (both A B f g) (FitBoth A B FitsA FitsB) (spell_both A B spellA spellB)
reads_both A B f g FitsA spellA FitsB spellB r1 r2 = record {
  sound = both_sound A B f g FitsA spellA FitsB spellB r1 r2;
  again = both_again A B f g FitsA spellA FitsB spellB r1 r2;
  stops = both_stops A B f g FitsA spellA FitsB spellB r1 r2;
  some = ((r1.some.0, (r2 r1.some.0 r1.some.1).some.0), (r1.some.1, (r2 r1.some.0 r1.some.1).some.1));
}

second_known : (A B C : Type 0) (a : A) (r : Read B) (h : A × B → List ℕ → Result C ℕ) → (r >>= λ y. h (a, y.0) y.1) ≡ ((r >>= λ y. let z : Read (A × B) = Ok ((a, y.0), y.1) in z) >>= λ z. h z.0 z.1)
second_known A B C a (Ok y) h = refl
second_known A B C a (Err left) h = refl

first_known : (A B C : Type 0) (r : Read A) (g : A → List ℕ → Read B) (h : A × B → List ℕ → Result C ℕ)
    → (r >>= λ x. (g x.0 x.1 >>= λ y. h (x.0, y.0) y.1)) ≡ ((r >>= λ x. (g x.0 x.1 >>= λ y. let z : Read (A × B) = Ok ((x.0, y.0), y.1) in z)) >>= λ z. h z.0 z.1)
first_known A B C (Ok x) g h = second_known A B C x.0 (g x.0 x.1) h
first_known A B C (Err left) g h = refl

-- what goes on from two fields
pub bind_both : (A B C : Type 0) (f : List ℕ → Read A) (g : A → List ℕ → Read B) (h : A × B → List ℕ → Result C ℕ) (bytes : List ℕ)
    → (f bytes >>= λ x. (g x.0 x.1 >>= λ y. h (x.0, y.0) y.1)) ≡ (both A B f g bytes >>= λ z. h z.0 z.1)
bind_both A B C f g h bytes = first_known A B C (f bytes) g h
