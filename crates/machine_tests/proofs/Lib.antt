mod Benches
