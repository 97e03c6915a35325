-- Digits of bytes, one byte behind the other, and that the library's text of them is the definition's. Assumes nothing.
use Rattle.std.proofs.Common.{◌≡◌, ℕ, zero, suc, ◌/◌, ◌%◌, ◌^◌, ◌<◌, List, [], ◌∷◌, ◌++◌, refl, ap, arith, slice_index}
use Rattle.hex.specs.Hex.{lower_digits, encode_with, encode_lower}
use Rattle.words.specs.Words.{Below}
use Rattle.words.specs.Hex.{digit, hex}

pub hex_push : (xs : List ℕ) (b : ℕ) → hex (xs ++ b ∷ []) ≡ hex xs ++ digit (b / 16) ∷ digit (b % 16) ∷ []
unfolding hex
hex_push [] b = refl
hex_push (x ∷ xs) b = ap (λ (r : List ℕ). digit (x / 16) ∷ digit (x % 16) ∷ r) (hex_push xs b)

digit_is : (n : ℕ) → n < 16 → slice_index lower_digits n ≡ digit n
digit_is zero h = refl
digit_is (suc zero) h = refl
digit_is (suc (suc zero)) h = refl
digit_is (suc (suc (suc zero))) h = refl
digit_is (suc (suc (suc (suc zero)))) h = refl
digit_is (suc (suc (suc (suc (suc zero))))) h = refl
digit_is (suc (suc (suc (suc (suc (suc zero)))))) h = refl
digit_is (suc (suc (suc (suc (suc (suc (suc zero))))))) h = refl
digit_is (suc (suc (suc (suc (suc (suc (suc (suc zero)))))))) h = refl
digit_is (suc (suc (suc (suc (suc (suc (suc (suc (suc zero))))))))) h = refl
digit_is (suc (suc (suc (suc (suc (suc (suc (suc (suc (suc zero)))))))))) h = refl
digit_is (suc (suc (suc (suc (suc (suc (suc (suc (suc (suc (suc zero))))))))))) h = refl
digit_is (suc (suc (suc (suc (suc (suc (suc (suc (suc (suc (suc (suc zero)))))))))))) h = refl
digit_is (suc (suc (suc (suc (suc (suc (suc (suc (suc (suc (suc (suc (suc zero))))))))))))) h = refl
digit_is (suc (suc (suc (suc (suc (suc (suc (suc (suc (suc (suc (suc (suc (suc zero)))))))))))))) h = refl
digit_is (suc (suc (suc (suc (suc (suc (suc (suc (suc (suc (suc (suc (suc (suc (suc zero))))))))))))))) h = refl
digit_is (suc (suc (suc (suc (suc (suc (suc (suc (suc (suc (suc (suc (suc (suc (suc (suc n)))))))))))))))) h = absurd (omega arith)

pub encoded : (bs : List ℕ) → Below (2 ^ 8) bs → encode_lower bs ≡ hex bs
unfolding encode_with hex
encoded [] h = refl
encoded (b ∷ bs) h = λ i. digit_is (b / 16) (omega arith) i ∷ digit_is (b % 16) (omega arith) i ∷ encoded bs h.1 i
