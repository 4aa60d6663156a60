-- What is said of a value, from what is said of its texts.
use Rattle.std.proofs.Common.{◌≡◌, ◌∙◌, ap, refl, subst, sym, option_map, List, ℕ, Option, Some, None, Result, Ok, Err, IfSome}
use Rattle.std.specs.Prelude.{unwrap_or}
use Rattle.std.specs.Result.{IsErrAnd}
use Rattle.ix_base.specs.declared.content.Value.{Value}
use Rattle.ix_base.specs.declared.rule.Rule.{Rule}
use Rattle.ix_base.specs.declared.rule.Rule.TheVariants.{V2}
use Rattle.ix_base.specs.declared.content.Item.{Item}
use Rattle.ix_base.specs.Elements.{Placed}
use Rattle.ix_base.specs.Kinds.{kind_of}
use Rattle.facts.specs.FractionValue.{fraction}
use Rattle.facts.specs.ItemValue.{IsItemOf, IsValueOf, ItemText, item_with}
use Rattle.facts.specs.Verdicts.{fault_of, rule_said, said, said_both}
use Rattle.facts.specs.declared.fault.ItemFault.{ItemFault}
use Rattle.tr4_dates.specs.declared.TrFault.{TrFault}
use Rattle.tr4_dates.specs.declared.TrFault.TheVariants.{NotInGrammar, NoMemory}

pub fraction_is : (P Q : Result (List ℕ) Rule → Type 0) (a b : Option (Result (List ℕ) Rule)) → IfSome a P → IfSome b Q
    → IfSome (said_both a b)
    (λ (r : Result Value Rule). (n : Result (List ℕ) Rule) × (P n × ((d : Result (List ℕ) Rule) × (Q d × (r ≡ fraction n d)))))
fraction_is P Q None b h k = tt
fraction_is P Q (Some n) None h k = tt
fraction_is P Q (Some n) (Some d) h k = (n, (h, (d, (k, refl))))

-- an item of this value says, or breaks, what its value does
pub judged : (text : ItemText) (p : Placed) (v : Result Value Rule) → IsValueOf text p v
    → (r : Result Item Rule) × IsItemOf text p r × (rule_said r ≡ rule_said v)
judged text p (Ok v) h = (Ok (item_with (kind_of p) p.tree v), (h, refl), refl)
judged text p (Err r) h = (Err r, h, refl)

pub judged-in : (text : ItemText) (p : Placed) (s : Option (Result Value Rule)) (o : Option Rule) → IfSome s (IsValueOf text p)
    → option_map rule_said s ≡ Some o → (r : Result Item Rule) × IsItemOf text p r × (rule_said r ≡ o)
judged-in text p None o h e = absurd (cc)
judged-in text p (Some v) o h e = let item = judged text p v h in (item.0, item.1, item.2 ∙ ap (λ k. unwrap_or k o) e)

-- what follows from all that is said
pub said-weaker : {X : Type 0} (P Q : X → Type 0) (o : Option X) → ((x : X) → P x → Q x) → IfSome o P → IfSome o Q
said-weaker P Q None f h = tt
said-weaker P Q (Some x) f h = f x h

-- a text without a value in its format breaks V2, and want of memory says nothing
pub by_fault : {X : Type 0} (P : Result X Rule → Type 0) (r : Result X ItemFault) (e : TrFault)
    → IsErrAnd r (λ f. f ≡ fault_of e) → (e ≡ NotInGrammar → P (Err V2)) → IfSome (said r) P
by_fault P (Ok v) e h k = absurd h
by_fault P (Err f) NotInGrammar h k = subst (λ (g : ItemFault). IfSome (said (Err g)) P) (sym h) (k refl)
by_fault P (Err f) NoMemory h k = subst (λ (g : ItemFault). IfSome (said (Err g)) P) (sym h) tt
