-- The instances that drive nets.
use Rattle.std.specs.Prelude.{ℕ, suc, List, [], ◌∷◌, ◌++◌, replicate, slice_index_or, slice_set, option_to_list, Option, Some, None}

-- the owner, or this one where there is none
abbrev pub owner_or : Option ℕ → ℕ → Option ℕ
owner_or None i = Some i
owner_or (Some k) i = Some k

-- the owners with these nets given to an instance, but for those that have one
abbrev pub owned : List (Option ℕ) → List ℕ → ℕ → List (Option ℕ)
owned os [] i = os
owned os (k ∷ ks) i = owned (slice_set os k (owner_or (slice_index_or os k None) i)) ks i

-- the same of instances in order, from a number on
abbrev pub owned_from : List (Option ℕ) → ℕ → List (List ℕ) → List (Option ℕ)
owned_from os i [] = os
owned_from os i (ks ∷ kss) = owned_from (owned os ks i) (suc i) kss

-- the owners of so many nets
abbrev pub owned_all : ℕ → List (List ℕ) → List (Option ℕ)
owned_all n kss = owned_from (replicate n None) 0 kss

-- the owners of nets, where they have one
abbrev pub wanted : List (Option ℕ) → List ℕ → List ℕ
wanted os [] = []
wanted os (k ∷ ks) = option_to_list (slice_index_or os k None) ++ wanted os ks
