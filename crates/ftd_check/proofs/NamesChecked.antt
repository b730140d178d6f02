-- Names of accounts, each once, decided one after the other.
use Rattle.std.proofs.Common.{◌≡◌, ◌∙◌, ℕ, inl, inr, refl, sym, subst, true, false, List, [], ◌∷◌}
use Rattle.std.specs.Prelude.{◌↔◌, IsTrue, bytes_eq}
use Rattle.std.specs.List.{list_any}
use Rattle.std.proofs.lemmas.Bool.{true≢false, false≢true}
use Rattle.ftd_days.proofs.Spelling.{same_text}
use Rattle.ftd_rules.specs.Accounts.{is_account_name}
use Rattle.ftd_rules.proofs.Members.{some_pass, any_has}
use Rattle.ftd_machine.proofs.Adding.{own_name}
use Rattle.ftd_store.specs.declared.kept_cells.NamedAccount.{NamedAccount}
use Rattle.ftd_check.specs.Accounts.{AreNames, name_read}
use Rattle.ftd_check.specs.Private.Names.{has_name}

-- the whole is decided by what is left of it
abbrev pub DecidedBy : Type 0 → Type 0 → Type 0
DecidedBy Whole Left = (Left → Whole) × (Whole → Left)

pub no_names : AreNames []
no_names = record { each = λ a has. absurd has; once = tt }

module _ (left : List NamedAccount) (a : NamedAccount) (rest : List NamedAccount)
    (is : left ≡ a ∷ rest) (Whole : Type 0) (decided : DecidedBy Whole (AreNames left)) where
  names_of : Whole → AreNames (a ∷ rest)
  names_of whole = subst AreNames is (decided.1 whole)

  pub names_rest : is_account_name (name_read a) ≡ true
      → list_any (has_name (name_read a)) rest ≡ false → DecidedBy Whole (AreNames rest)
  names_rest named none = (
    (λ names. decided.0 (subst AreNames (sym is) (record {
      each = λ b has. elim has [
        | inl same ↦ subst (λ (x : NamedAccount). is_account_name (name_read x) ≡ true)
            (sym same) named
        | inr there ↦ names.each b there
      ];
      once = (
        (λ later has same. true≢false
            (sym (any_has (has_name (name_read a)) rest later has
            (subst (λ (n : List ℕ). bytes_eq (name_read later) n ≡ true) same
            (own_name (name_read later)))) ∙ none)),
        names.once,
      );
    }))),
    (λ whole. let names = names_of whole in record {
      each = λ b has. names.each b (inr has);
      once = names.once.1;
    }),
  )

  pub not_named : is_account_name (name_read a) ≡ false → IsTrue false ↔ Whole
  not_named not = (
    (λ no. absurd (false≢true no)),
    (λ whole. absurd (true≢false (sym ((names_of whole).each a (inl refl)) ∙ not))),
  )

  pub named_twice : list_any (has_name (name_read a)) rest ≡ true → IsTrue false ↔ Whole
  named_twice some = (
    (λ no. absurd (false≢true no)),
    (λ whole.
        let found = some_pass (has_name (name_read a)) rest some in
        absurd ((names_of whole).once.0 found.0 found.1
        (same_text (name_read found.0) (name_read a) found.2))),
  )
