-- The test of two sorts.
use Rattle.std.proofs.Common.{◌≡◌, ◌≢◌, true, false, refl, sym, ◌∙◌, ap}
use Rattle.std.proofs.lemmas.Bool.{false≢true}
use Rattle.cb_model.specs.declared.Sort.{Sort}
use Rattle.cb_model.specs.declared.Sort.TheVariants as sort
use Rattle.cb_model.specs.Sorted.{same_sort}

pub same_sorts : (s t : Sort) → same_sort s t ≡ true → s ≡ t
same_sorts sort.Bool sort.Bool h = refl
same_sorts sort.Bus sort.Bus h = refl
same_sorts sort.Term sort.Term h = refl
same_sorts sort.Bool sort.Bus h = absurd (false≢true h)
same_sorts sort.Bool sort.Term h = absurd (false≢true h)
same_sorts sort.Bus sort.Bool h = absurd (false≢true h)
same_sorts sort.Bus sort.Term h = absurd (false≢true h)
same_sorts sort.Term sort.Bool h = absurd (false≢true h)
same_sorts sort.Term sort.Bus h = absurd (false≢true h)

pub other_sorts : (s t : Sort) → same_sort s t ≡ false → t ≢ s
other_sorts s t h e = false≢true (sym h ∙ ap (same_sort s) e ∙ self s)
  where
    self : (s : Sort) → same_sort s s ≡ true
    self sort.Bool = refl
    self sort.Bus = refl
    self sort.Term = refl
