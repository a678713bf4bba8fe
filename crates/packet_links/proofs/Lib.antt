mod Radiotap
