-- The kind of a node that its first byte says, and what a `match` on it settles about the byte.
use Rattle.std.specs.Prelude.{◌≡◌, [], ◌∷◌, ℕ, ◌<◌, ◌≤◌, min, get_or}
use Rattle.std.proofs.Common.{ap, ◌∙◌, arith, rules}
use Rattle.std.proofs.Math.Dec.{eqb, eqb→eq}
use Rattle.std.proofs.Math.Decide.{dec_lt}
use Rattle.rules.specs.Below.{below}
use Rattle.node_bytes.specs.declared.Tag.{Tag}
use Rattle.node_bytes.specs.declared.Tag.TheVariants.{Table, Inner, LeftOuter, FullOuter, Grouping, Other}

-- the kind that a byte says
unfoldable pub tag_of : ℕ → Tag
tag_of b = get_or (Table ∷ Inner ∷ LeftOuter ∷ FullOuter ∷ Grouping ∷ []) b Other

-- a byte from 5 on says none
pub tag_other : (b : ℕ) → 5 ≤ b → tag_of b ≡ Other
unfolding tag_of
tag_other b h = search rules

-- the byte of each kind, and the least that says none
abbrev pub byte_in : Tag → ℕ
byte_in Table = 0
byte_in Inner = 1
byte_in LeftOuter = 2
byte_in FullOuter = 3
byte_in Grouping = 4
byte_in Other = 5

-- a byte is that of the kind that it says
pub byte_said : (b : ℕ) → byte_in (tag_of b) ≡ min b 5
unfolding tag_of
byte_said b = by_number (dec_lt b 5)
  where
    by_number : Dec (b < 5) → byte_in (tag_of b) ≡ min b 5
    by_number (yes l) = eqb→eq _ _ (below (λ (k : ℕ). eqb (byte_in (tag_of k)) (min k 5)) 5 tt b l)
    by_number (no l) = ap byte_in (tag_other b (omega arith)) ∙ (let m : 5 ≡ min b 5 = omega arith in m)

-- what a `match` on the kind settles about the byte
module _ (b : ℕ) where
  pub says_table : tag_of b ≡ Table → b ≡ 0
  says_table e = omega (arith, byte_said b, ap byte_in e)

  pub says_inner : tag_of b ≡ Inner → b ≡ 1
  says_inner e = omega (arith, byte_said b, ap byte_in e)

  pub says_left_outer : tag_of b ≡ LeftOuter → b ≡ 2
  says_left_outer e = omega (arith, byte_said b, ap byte_in e)

  pub says_full_outer : tag_of b ≡ FullOuter → b ≡ 3
  says_full_outer e = omega (arith, byte_said b, ap byte_in e)

  pub says_grouping : tag_of b ≡ Grouping → b ≡ 4
  says_grouping e = omega (arith, byte_said b, ap byte_in e)

  pub says_other : tag_of b ≡ Other → 5 ≤ b
  says_other e = omega (arith, byte_said b, ap byte_in e)

  -- and what it rules out
  pub not_table : (tag_of b ≡ Table → ⊥) → b ≡ 0 → ⊥
  unfolding tag_of
  not_table f e = f (ap tag_of e)

  pub not_full_outer : (tag_of b ≡ FullOuter → ⊥) → b ≡ 3 → ⊥
  unfolding tag_of
  not_full_outer f e = f (ap tag_of e)

  pub not_grouping : (tag_of b ≡ Grouping → ⊥) → b ≡ 4 → ⊥
  unfolding tag_of
  not_grouping f e = f (ap tag_of e)
