-- One more behind those that are the first of a list.
use Rattle.std.proofs.Common.{◌≡◌, ◌++◌, ◌∷◌, ℕ, List, [], Some, length, subst, sym}
use Rattle.std.proofs.lemmas.Option.{none-some}
use Rattle.std.specs.List.{AllByRecursion}
use Rattle.std.specs.Prelude.{IsSomeAnd, slice_get}
use Rattle.std.specs.declared.net.ip_addr.IpAddr.{IpAddr}
use Rattle.pdc_network.specs.declared.destination.Destination.{Destination}
use Rattle.pdc_network.specs.declared.link.Link.{Link}
use Rattle.pdc_settings.specs.declared.input.Input.{Input}
use Rattle.pdc_settings.specs.declared.network.Network.{Network}
use Rattle.pdc_sockets.specs.Links.{AreLinksOf, IsLinkOf}
use Rattle.pdc_sockets.specs.Outputs.{AreDestinationsOf}

all_with : {A : Type 0} (P : A → Type 0) (xs : List A) (x : A) → AllByRecursion P xs → P x → AllByRecursion P (xs ++ x ∷ [])
all_with P [] x all one = (one, tt)
all_with P (y ∷ xs) x all one = (all.0, all_with P xs x all.1 one)

-- what holds of all, and of one more
pub all_push : {A : Type 0} (P : A → Type 0) (xs more : List A) (x : A) → more ≡ xs ++ x ∷ [] → AllByRecursion P xs → P x → AllByRecursion P more
all_push P xs more x m all one = subst (AllByRecursion P) (sym m) (all_with P xs x all one)

-- one more link
pub link_more : {R S D T : Type 0} (receives : S → IpAddr → ℕ → ℕ → Type 0) (network : Network) (inputs : List Input) (ports : List ℕ) (links : List (Link R S D T)) (input : Input) (port : ℕ) (link : Link R S D T)
    → AreLinksOf receives network inputs ports links → slice_get inputs (length links) ≡ Some input → slice_get ports (length links) ≡ Some port
    → IsLinkOf receives network port input link → AreLinksOf receives network inputs ports (links ++ link ∷ [])
link_more receives network [] ports [] input port link all i p one = absurd (none-some input i)
link_more receives network (x ∷ inputs) [] [] input port link all i p one = absurd (none-some port p)
link_more receives network (x ∷ inputs) (y ∷ ports) [] input port link all i p one =
    (subst (λ o. IsSomeAnd o (λ a. IsLinkOf receives network y a link)) (sym i) (subst (λ o. IsSomeAnd o (λ a. IsLinkOf receives network a input link)) (sym p) one), tt)
link_more receives network [] ports (l ∷ links) input port link all i p one = absurd all
link_more receives network (x ∷ inputs) [] (l ∷ links) input port link all i p one = absurd all
link_more receives network (x ∷ inputs) (y ∷ ports) (l ∷ links) input port link all i p one = (all.0, link_more receives network inputs ports links input port link all.1 i p one)

-- one more destination
pub destination_more : {S : Type 0} (sends : Destination S → List ℕ → ℕ → Type 0) (hops : ℕ) (texts : List (List ℕ)) (destinations : List (Destination S)) (text : List ℕ) (destination : Destination S)
    → AreDestinationsOf sends hops texts destinations → slice_get texts (length destinations) ≡ Some text → sends destination text hops
    → AreDestinationsOf sends hops texts (destinations ++ destination ∷ [])
destination_more sends hops [] [] text destination all t one = absurd (none-some text t)
destination_more sends hops (x ∷ texts) [] text destination all t one = (subst (λ o. IsSomeAnd o (λ a. sends destination a hops)) (sym t) one, tt)
destination_more sends hops [] (d ∷ destinations) text destination all t one = absurd all
destination_more sends hops (x ∷ texts) (d ∷ destinations) text destination all t one = (all.0, destination_more sends hops texts destinations text destination all.1 t one)
