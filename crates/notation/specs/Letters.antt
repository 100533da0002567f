-- The characters that words and lines are made of, as bytes of ASCII: a word is written letter by letter.
-- Assumes nothing.
use Rattle.std.specs.Prelude.{ℕ}

-- between two words, and after a line
abbrev pub space : ℕ
space = 32

abbrev pub newline : ℕ
newline = 10

-- the digits
abbrev pub d0 : ℕ
d0 = 48

abbrev pub d1 : ℕ
d1 = 49

abbrev pub d2 : ℕ
d2 = 50

abbrev pub d3 : ℕ
d3 = 51

abbrev pub d4 : ℕ
d4 = 52

abbrev pub d5 : ℕ
d5 = 53

abbrev pub d6 : ℕ
d6 = 54

abbrev pub d7 : ℕ
d7 = 55

abbrev pub d8 : ℕ
d8 = 56

abbrev pub d9 : ℕ
d9 = 57

-- the letters that occur
abbrev pub a : ℕ
a = 97

abbrev pub b : ℕ
b = 98

abbrev pub c : ℕ
c = 99

abbrev pub d : ℕ
d = 100

abbrev pub e : ℕ
e = 101

abbrev pub f : ℕ
f = 102

abbrev pub h : ℕ
h = 104

abbrev pub i : ℕ
i = 105

abbrev pub j : ℕ
j = 106

abbrev pub k : ℕ
k = 107

abbrev pub l : ℕ
l = 108

abbrev pub n : ℕ
n = 110

abbrev pub o : ℕ
o = 111

abbrev pub p : ℕ
p = 112

abbrev pub q : ℕ
q = 113

abbrev pub r : ℕ
r = 114

abbrev pub s : ℕ
s = 115

abbrev pub t : ℕ
t = 116

abbrev pub u : ℕ
u = 117

abbrev pub v : ℕ
v = 118

abbrev pub w : ℕ
w = 119
